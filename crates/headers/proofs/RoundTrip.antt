-- Reading what was written gives it back, and writing what was read gives the bytes back.
-- Assumes nothing.
use Rattle.std.proofs.Common.{◌≡◌, ℕ, ◌+◌, ◌-◌, ◌<◌, ◌≤◌, not, eqb, ltb, List, [], ◌∷◌, ◌++◌, length, take, drop, set, sym, refl, ap, ◌∙◌, subst, ap₂, arith, length-append, length-drop, take-append-drop, take_all, ltb-false, le-ltb, eqb-true}
use borrow.Author.Tests.{not-false}
use lib.Seq.{set_split}
use Rattle.field.specs.Answer.{given, unless}
use Rattle.field.proofs.Answers.{given-only, outcome-only}
use Rattle.headers.specs.Bytes.{number}
use Rattle.headers.specs.Headers.{Stores, room, IdStored, InfoStored, PacketStored, id_at, id_bytes, read_id, info_at, info_bytes, read_info, read_packet}
use Rattle.std.specs.Prelude.{Result, Ok}
use Rattle.field.specs.declared.refusal.Refusal.{Refusal}
use Rattle.headers.specs.declared.payload_id.PayloadId.{PayloadId}
use Rattle.headers.specs.declared.transmission.ObjectTransmissionInformation.{ObjectTransmissionInformation}
use Rattle.field.proofs.Refusals.{passed}
use Rattle.headers.proofs.Bytes.{Bytes, in_bytes-number, in_bytes-next, number_lt, laid-front}
use Rattle.headers.proofs.Headers.{id-is, info-is}

-- a write that is done was in its bounds, and its bytes are the front of the store
module _ (x most n need : ℕ) (bs : List ℕ) {xs ys : List ℕ} (size : length bs ≡ need) where
  stored : Stores (room x most n need (length xs)) bs xs ys (Ok tt) → (x ≤ most) × (take need ys ≡ bs)
  stored w =
      let a = passed (ltb most x) n (unless (ltb (length xs) need) 8 (given tt)) tt (sym w.answer) in
      let b = passed (ltb (length xs) need) 8 (given tt) tt a.1 in
      let l : need ≤ length xs = ltb-false (length xs) need b.0 in
      (ltb-false most x a.0, ap (λ (k : ℕ). take k ys) (sym size) ∙ laid-front bs w.memory (omega arith))

  -- and in its bounds it is done
  stored-done : {r : Result (Unit {0}) Refusal} → x ≤ most → need ≤ length xs → Stores (room x most n need (length xs)) bs xs ys r → (r ≡ (Ok tt)) × (take need ys ≡ bs)
  stored-done {r} h l w =
      let e : r ≡ (Ok tt) = outcome-only r (Ok tt) (w.answer ∙ rw (le-ltb most x h, le-ltb (length xs) need l)) in
      (e, (stored (subst (λ (q : Result (Unit {0}) Refusal). Stores (room x most n need (length xs)) bs xs ys q) e w)).1)

-- Payload ids

id-number : (i : PayloadId) (rest : List ℕ) → i.source_block_number < 256 → i.encoding_symbol_id < 16777216 → id_at (id_bytes i ++ rest) ≡ i
id-number i rest s e = id-is (omega arith) (omega arith)

id-front : (s : List ℕ) → Bytes s → 4 ≤ length s → id_bytes (id_at s) ≡ take 4 s
id-front s b h = in_bytes-next s 0 1 3 b (omega arith) (in_bytes-number s 1 3 b (omega arith))

pub id-read-back : (i : PayloadId) {xs ys : List ℕ} → i.source_block_number < 256 → IdStored i xs ys (Ok tt)
    → read_id (take 4 ys) ≡ given i
id-read-back i s w =
    let u = stored i.encoding_symbol_id 16777215 9 4 (id_bytes i) refl w in
    rw u.1 (ap given (id-number i [] s (omega arith)))

pub id-write-back : (s : List ℕ) (i : PayloadId) {xs ys : List ℕ} {r : Result (Unit {0}) Refusal} → Bytes s → read_id s ≡ given i → 4 ≤ length xs
    → IdStored i xs ys r
    → (r ≡ (Ok tt)) × (take 4 ys ≡ s)
id-write-back s i b e l w =
    let g = passed (not (eqb (length s) 4)) 8 (given (id_at s)) i e in
    let n : length s ≡ 4 = eqb-true (length s) 4 (not-false (eqb (length s) 4) g.0) in
    let q : i ≡ id_at s = given-only i (id_at s) (sym g.1) in
    let m : i.encoding_symbol_id ≡ number s 1 3 = ap (λ (j : PayloadId). j.encoding_symbol_id) q in
    let d = stored-done i.encoding_symbol_id 16777215 9 4 (id_bytes i) refl (omega (arith, m, number_lt s 1 3 b)) l w in
    (d.0, d.1 ∙ ap id_bytes q ∙ id-front s b (omega arith) ∙ take_all 4 s (omega arith))

-- Transmission information: the reserved byte is the sender's when it is read, and 0 when it is written

info-number : (o : ObjectTransmissionInformation) → o.transfer_length < 1099511627776 → o.symbol_size < 65536
    → o.num_source_blocks < 256
    → o.num_sub_blocks < 65536
    → o.symbol_alignment < 256
    → info_at (info_bytes o) ≡ o
info-number o f t z n a = info-is (omega arith) (omega arith) (omega arith) (omega arith) (omega arith)

info-front : (s : List ℕ) → Bytes s → length s ≡ 12 → info_bytes (info_at s) ≡ set s 5 0
info-front s b e =
    let al = in_bytes-number s 11 1 b (omega arith) in
    let n = in_bytes-next s 9 2 1 b (omega arith) al in
    let z = in_bytes-next s 8 1 3 b (omega arith) n in
    let t = in_bytes-next s 6 2 4 b (omega arith) z ∙ take_all 6 (drop 6 s) (omega (arith, length-drop 6 s)) in
    ap₂ (λ (x y : List ℕ). x ++ (0 ∷ y)) (in_bytes-number s 0 5 b (omega arith)) t ∙ sym (set_split s 5 0 (omega arith))

pub info-read-back : (o : ObjectTransmissionInformation) {xs ys : List ℕ} → o.symbol_size < 65536 → o.num_source_blocks < 256
    → o.num_sub_blocks < 65536
    → o.symbol_alignment < 256
    → InfoStored o xs ys (Ok tt)
    → read_info (take 12 ys) ≡ given o
info-read-back o t z n a w =
    let u = stored o.transfer_length 1099511627775 2 12 (info_bytes o) refl w in
    rw u.1 (ap given (info-number o (omega arith) t z n a))

pub info-write-back : (s : List ℕ) (o : ObjectTransmissionInformation) {xs ys : List ℕ} {r : Result (Unit {0}) Refusal} → Bytes s → read_info s ≡ given o
    → 12 ≤ length xs
    → InfoStored o xs ys r
    → (r ≡ (Ok tt)) × (take 12 ys ≡ set s 5 0)
info-write-back s o b e l w =
    let g = passed (not (eqb (length s) 12)) 8 (given (info_at s)) o e in
    let n : length s ≡ 12 = eqb-true (length s) 12 (not-false (eqb (length s) 12) g.0) in
    let q : o ≡ info_at s = given-only o (info_at s) (sym g.1) in
    let m : o.transfer_length ≡ number s 0 5 = ap (λ (p : ObjectTransmissionInformation). p.transfer_length) q in
    let d = stored-done o.transfer_length 1099511627775 2 12 (info_bytes o) refl (omega (arith, m, number_lt s 0 5 b)) l w in
    (d.0, d.1 ∙ ap info_bytes q ∙ info-front s b n)

-- Packets

pub packet-read-back : (i : PayloadId) (p : List ℕ) {xs ys : List ℕ} → i.source_block_number < 256
    → PacketStored i p xs ys (Ok tt)
    → (read_packet (take (4 + length p) ys) ≡ given (i, 4, length p)) × (drop 4 (take (4 + length p) ys) ≡ p)
packet-read-back i p s w =
    let n : length (id_bytes i ++ p) ≡ 4 + length p = length-append (id_bytes i) p in
    let u = stored i.encoding_symbol_id 16777215 9 (4 + length p) (id_bytes i ++ p) n w in (
      rw (u.1, le-ltb (length (id_bytes i ++ p)) 4 (omega arith))
          (ap₂ (λ (j : PayloadId) (k : ℕ). given (j, 4, k)) (id-number i p s (omega arith)) (omega (arith, n))),
      rw u.1,
    )

pub packet-write-back : (s : List ℕ) (i : PayloadId) (from len : ℕ) {xs ys : List ℕ} {r : Result (Unit {0}) Refusal} → Bytes s → read_packet s ≡ given (i, from, len)
    → length s ≤ length xs
    → PacketStored i (take len (drop from s)) xs ys r
    → (r ≡ (Ok tt)) × (take (length s) ys ≡ s)
packet-write-back s i from len {xs} {ys} b e l w =
    let g = passed (ltb (length s) 4) 8 (given (id_at s, 4, length s - 4)) (i, from, len) e in
    let h : 4 ≤ length s = ltb-false (length s) 4 g.0 in
    let p : ◌≡◌ {A = PayloadId × ℕ × ℕ} (i, from, len) (id_at s, 4, length s - 4) = given-only (i, from, len) (id_at s, 4, length s - 4) (sym g.1) in
    let q : i ≡ id_at s = ap (λ (x : PayloadId × ℕ × ℕ). x.0) p in
    let f : from ≡ 4 = ap (λ (x : PayloadId × ℕ × ℕ). x.1) p in
    let z : len ≡ length s - 4 = ap (λ (x : PayloadId × ℕ × ℕ). x.2) p in
    let m : i.encoding_symbol_id ≡ number s 1 3 = ap (λ (j : PayloadId). j.encoding_symbol_id) q in
    let t : take len (drop from s) ≡ drop 4 s = ap (λ (x : ℕ). take len (drop x s)) f ∙ take_all len (drop 4 s) (omega (arith, length-drop 4 s)) in
    let n : 4 + length (take len (drop from s)) ≡ length s = omega (arith, ap length t, length-drop 4 s) in
    let a : id_bytes i ++ take len (drop from s) ≡ s =
    ap₂ (λ (x y : List ℕ). x ++ y) (ap id_bytes q ∙ id-front s b h) t ∙ take-append-drop 4 s
    in
    let d = stored-done i.encoding_symbol_id 16777215 9 (4 + length (take len (drop from s))) (id_bytes i ++ take len (drop from s))
    (ap length a ∙ sym n) (omega (arith, m, number_lt s 1 3 b)) (omega arith) w
    in
    (d.0, ap (λ (x : ℕ). take x ys) (sym n) ∙ d.1 ∙ a)
