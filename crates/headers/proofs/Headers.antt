-- A struct is its numbers, a packet is its front and the rest, and the twelve bytes are laid a number at a time.
-- Assumes nothing.
use Rattle.std.proofs.Common.{◌≡◌, ℕ, ◌-◌, ◌<◌, ◌≤◌, List, ◌++◌, length, sym, refl, ap, ◌∙◌, ap₂, arith, le-ltb, lt-ltb}
use native.Mathlib.Decide.{dec_lt}
use Rattle.field.specs.Answer.{given, refused}
use Rattle.field.proofs.Answers.{given-only, refused-only, given-not-refused}
use Rattle.headers.specs.Bytes.{Laid, in_bytes}
use Rattle.headers.specs.Headers.{id_at, info_bytes, headed, read_packet}
use Rattle.headers.proofs.Bytes.{laid-append}
use Rattle.headers.specs.declared.payload_id.PayloadId.{PayloadId}
use Rattle.headers.specs.declared.transmission.ObjectTransmissionInformation.{ObjectTransmissionInformation}

-- an id is its two numbers
pub id-is : {i j : PayloadId} → i.source_block_number ≡ j.source_block_number → i.encoding_symbol_id ≡ j.encoding_symbol_id → i ≡ j
id-is p q = ap₂ {C = PayloadId} (λ (a b : ℕ). record { source_block_number = a; encoding_symbol_id = b }) p q

-- the front of a packet and the packet are refused alike, and where they are not, the packet is the front and the rest
pub packet-refused : (s : List ℕ) (n : ℕ) → refused n ≡ headed s → refused n ≡ read_packet s
packet-refused s n e = go (dec_lt (length s) 4)
  where
    go : Dec (length s < 4) → refused n ≡ read_packet s
    go (yes l) = rw (lt-ltb (length s) 4 l) (ap refused (refused-only {A = PayloadId × ℕ} n 8 (rw (lt-ltb (length s) 4 l) at e)))
    go (no l) = absurd (given-not-refused (id_at s, 4) n (sym (rw (le-ltb (length s) 4 (omega arith)) at e)))

pub packet-given : (s : List ℕ) (i : PayloadId) (at : ℕ) → given (i, at) ≡ headed s → (at ≤ length s) × (given (i, at, length s - at) ≡ read_packet s)
packet-given s i at e = go (dec_lt (length s) 4)
  where
    go : Dec (length s < 4) → (at ≤ length s) × (given (i, at, length s - at) ≡ read_packet s)
    go (yes l) = absurd (given-not-refused (i, at) 8 (rw (lt-ltb (length s) 4 l) at e))
    go (no l) =
        let p : ◌≡◌ {A = PayloadId × ℕ} (i, at) (id_at s, 4) = given-only (i, at) (id_at s, 4) (rw (le-ltb (length s) 4 (omega arith)) at e) in
        let q : at ≡ 4 = ap (λ (x : PayloadId × ℕ). x.1) p in
        (omega arith, rw (le-ltb (length s) 4 (omega arith)) (ap (λ (q : PayloadId × ℕ). given (q.0, q.1, length s - q.1)) p))

-- transmission information is its five numbers
abbrev info : ℕ → ℕ → ℕ → ℕ → ℕ → ObjectTransmissionInformation
info f t z n a =
    record { transfer_length = f; symbol_size = t; num_source_blocks = z; num_sub_blocks = n; symbol_alignment = a }

pub info-is : {o p : ObjectTransmissionInformation} → o.transfer_length ≡ p.transfer_length → o.symbol_size ≡ p.symbol_size
    → o.num_source_blocks ≡ p.num_source_blocks
    → o.num_sub_blocks ≡ p.num_sub_blocks
    → o.symbol_alignment ≡ p.symbol_alignment
    → o ≡ p
info-is {o} {p} f t z n a =
    ap₂ (λ (x y : ℕ). info x y o.num_source_blocks o.num_sub_blocks o.symbol_alignment) f t
    ∙ ap₂ (λ (x y : ℕ). info p.transfer_length p.symbol_size x y o.symbol_alignment) z n
    ∙ ap (info p.transfer_length p.symbol_size p.num_source_blocks p.num_sub_blocks) a

-- its bytes, laid a number at a time
pub info-laid : (o : ObjectTransmissionInformation) {s0 s1 s2 s3 s4 s5 s6 : List ℕ}
    → Laid (in_bytes 5 o.transfer_length) s0 s1 0
    → Laid (in_bytes 1 0) s1 s2 5
    → Laid (in_bytes 2 o.symbol_size) s2 s3 6
    → Laid (in_bytes 1 o.num_source_blocks) s3 s4 8
    → Laid (in_bytes 2 o.num_sub_blocks) s4 s5 9
    → Laid (in_bytes 1 o.symbol_alignment) s5 s6 11
    → Laid (info_bytes o) s0 s6 0
info-laid o f r t z n a =
    let na = in_bytes 2 o.num_sub_blocks ++ in_bytes 1 o.symbol_alignment in
    let zna = in_bytes 1 o.num_source_blocks ++ na in
    let tzna = in_bytes 2 o.symbol_size ++ zna in
    laid-append (in_bytes 5 o.transfer_length) (in_bytes 1 0 ++ tzna) f refl
    (laid-append (in_bytes 1 0) tzna r refl
    (laid-append (in_bytes 2 o.symbol_size) zna t refl
    (laid-append (in_bytes 1 o.num_source_blocks) na z refl
    (laid-append (in_bytes 2 o.num_sub_blocks) (in_bytes 1 o.symbol_alignment) n refl a))))
