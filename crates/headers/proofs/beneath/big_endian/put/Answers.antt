-- `headers::beneath::big_endian::put` meets its contract: the bytes of std are those of the definition.
-- Assumes nothing.
use Rattle.std.proofs.Common.{◌≡◌, ℕ, zero, suc, ◌+◌, ◌-◌, ◌*◌, ◌/◌, ◌%◌, ◌^◌, ◌<◌, ◌≤◌, List, length, get_or, take, drop, subst, ext_get_or, sym, refl, ap, ◌∙◌, div-one, pow-add, arith, length-take-le, length-drop, get_or-take, get_or-drop}
use Rattle.std.specs.Int.{byte_at, bytes_high_first}
use Rattle.headers.specs.Bytes.{Laid, in_bytes}
use Rattle.headers.proofs.Bytes.{in_bytes-length, in_bytes-at}
use Rattle.headers.proofs.beneath.big_endian.put.Goals as goal

power-is : (k : ℕ) → 256 ^ k ≡ 2 ^ (8 * k)
power-is zero = refl
power-is (suc k) =
    let e : 8 * suc k ≡ 8 * k + 8 = omega arith in
    omega (arith, power-is k, ap (λ (j : ℕ). 2 ^ j) e ∙ pow-add 2 (8 * k) 8)

byte-is : (k x : ℕ) → byte_at k x ≡ x / 2 ^ (8 * k) % 256
byte-is zero x = ap (λ (y : ℕ). y % 256) (sym (div-one x))
byte-is (suc k) x = ap (λ (y : ℕ). x / y % 256) (power-is (suc k))

high-at : (n x i : ℕ) → i < n → get_or (bytes_high_first n x) i 0 ≡ x / 2 ^ (8 * (n - 1 - i)) % 256
high-at zero x i h = absurd (omega arith)
high-at (suc n) x zero h = byte-is n x ∙ ap (λ (k : ℕ). x / 2 ^ (8 * k) % 256) (omega arith)
high-at (suc n) x (suc i) h = high-at n x i (omega arith) ∙ ap (λ (k : ℕ). x / 2 ^ (8 * k) % 256) (omega arith)

-- the n low bytes of eight
low-bytes : (n x : ℕ) → n ≤ 8 → take (8 - (8 - n)) (drop (8 - n) (bytes_high_first 8 x)) ≡ in_bytes n x
low-bytes n x l =
    let low : List ℕ = drop (8 - n) (bytes_high_first 8 x) in
    let long : length low ≡ n = omega (arith, length-drop (8 - n) (bytes_high_first 8 x)) in
    ext_get_or 0 (take (8 - (8 - n)) low) (in_bytes n x)
    (omega (arith, length-take-le (8 - (8 - n)) low (omega arith), in_bytes-length n x))
    (λ k h. let in_n : k < n = omega (arith, length-take-le (8 - (8 - n)) low (omega arith)) in
    get_or-take (8 - (8 - n)) low k 0 (omega arith) ∙ get_or-drop (8 - n) (bytes_high_first 8 x) k 0
    ∙ high-at 8 x (8 - n + k) (omega arith) ∙ ap (λ (j : ℕ). x / 2 ^ (8 * j) % 256) (omega arith) ∙ sym (in_bytes-at n x k in_n))

pub returns : goal.returns
returns c =
    let n = c.args.n in
    subst (λ (bs : List ℕ). Laid bs c.args.store.now c.copy.new.store c.args.at)
    (ap (λ (ws : List ℕ). take (8 - (8 - n)) (drop (8 - n) ws)) c.to_be_bytes-word.ensures ∙ low-bytes n c.args.x c.requires.1) c.copy.ensures
