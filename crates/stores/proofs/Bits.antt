-- Bits of words: a bit that is put in its place, and that a word is its bits.
-- Assumes nothing.
use mathlib.Core.Path.{◌≡◌, sym, ap, ◌∙◌}
use Prim.Native.Nat.{ℕ, zero, suc, ◌+◌, ◌-◌, ◌*◌, ◌/◌, ◌%◌, ◌^◌, ◌≤◌, ◌<◌}
use native.Mathlib.Nat.{mod-lt, zero-mul, mul-div_cancel, mod-eq_of_lt, div-eq_of_lt, mul-mod_left, mul_assoc, mul_comm, pow-suc, lt_of_lt_of_le, div-one, div-div-eq-div-mul}
use native.Mathlib.Decide.{dec_lt}
use native.Mathlib.Omega.{arith}
use lib.Bits.{bit_xor, xor_zero_r, xor_self, xor_lt, xor_shr, xor_mod}
use lib.Pow.{pow_pos, pow-add, pow_mono, shl_lt, shl_exact}
use Rattle.field.proofs.Xor.{cancel}
use Rattle.stores.specs.Bits.{bit, with_bit}

pub bit-lt : (w k : ℕ) → bit w k < 2
bit-lt w k = mod-lt (w / 2 ^ k) (omega arith)

-- each bit of a sum is the sum of the bits
pub xor-bit : (a b k : ℕ) → bit (bit_xor a b) k ≡ bit_xor (bit a k) (bit b k)
xor-bit a b k = ap (λ (x : ℕ). x % 2) (xor_shr a b k) ∙ xor_mod (a / 2 ^ k) (b / 2 ^ k) 1

-- x at bit b: there it is x, and every other bit is 0
at_self : (x b : ℕ) → x < 2 → bit (x * 2 ^ b) b ≡ x
at_self x b h = ap (λ (y : ℕ). y % 2) (mul-div_cancel x (pow_pos b)) ∙ mod-eq_of_lt h

at_other : (x b k : ℕ) → x < 2 → (k ≡ b → ⊥) → bit (x * 2 ^ b) k ≡ 0
at_other x b k h n = go (dec_lt k b)
  where
    go : Dec (k < b) → bit (x * 2 ^ b) k ≡ 0
    go (yes l) =
        let j : ℕ = b - k - 1 in
        let e : suc j + k ≡ b = omega arith in
        let q : x * 2 ^ b ≡ x * 2 ^ j * 2 * 2 ^ k =
        ap (λ (m : ℕ). x * 2 ^ m) (sym e) ∙ ap (λ (m : ℕ). x * m) (pow-add 2 (suc j) k ∙ ap (λ (m : ℕ). m * 2 ^ k) (pow-suc 2 j))
        ∙ sym (mul_assoc x (2 ^ j * 2) (2 ^ k)) ∙ ap (λ (m : ℕ). m * 2 ^ k) (sym (mul_assoc x (2 ^ j) 2)) in
        ap (λ (m : ℕ). m / 2 ^ k % 2) q ∙ ap (λ (m : ℕ). m % 2) (mul-div_cancel (x * 2 ^ j * 2) (pow_pos k)) ∙ mul-mod_left (x * 2 ^ j) 2
    go (no l) = ap (λ (m : ℕ). m % 2) (div-eq_of_lt (lt_of_lt_of_le (shl_lt 1 b h) (pow_mono (omega arith))))

flip-lt : (w b v : ℕ) → v < 2 → bit_xor (bit w b) v < 2
flip-lt w b v h = xor_lt 1 (bit w b) v (bit-lt w b) h

-- the bit that was made v, and the others
pub with-same : (w b v : ℕ) → v < 2 → bit (with_bit w b v) b ≡ v
unfolding with_bit
with-same w b v h =
    xor-bit w (bit_xor (bit w b) v * 2 ^ b) b ∙ ap (bit_xor (bit w b)) (at_self (bit_xor (bit w b) v) b (flip-lt w b v h)) ∙ cancel (bit w b) v

pub with-other : (w b v k : ℕ) → v < 2 → (k ≡ b → ⊥) → bit (with_bit w b v) k ≡ bit w k
unfolding with_bit
with-other w b v k h n =
    xor-bit w (bit_xor (bit w b) v * 2 ^ b) k ∙ ap (bit_xor (bit w k)) (at_other (bit_xor (bit w b) v) b k (flip-lt w b v h) n) ∙ xor_zero_r (bit w k)

-- a bit made what it is
pub with-self : (w b : ℕ) → with_bit w b (bit w b) ≡ w
unfolding with_bit
with-self w b = ap (λ (x : ℕ). bit_xor w (x * 2 ^ b)) (xor_self (bit w b)) ∙ ap (bit_xor w) (zero-mul (2 ^ b)) ∙ xor_zero_r w

-- as a machine word computes it
pub flipped : (w b v : ℕ) → b < 64 → v < 2 → bit_xor w (bit_xor (w / 2 ^ b % 2) v * 2 ^ b % 2 ^ 64) ≡ with_bit w b v
unfolding with_bit
flipped w b v h l = ap (bit_xor w) (shl_exact 1 b 64 (flip-lt w b v l) (omega arith))

half-bit : (a k : ℕ) → bit (a / 2) k ≡ bit a (suc k)
half-bit a k = ap (λ (n : ℕ). n % 2) (div-div-eq-div-mul a 2 (2 ^ k) ∙ ap (λ (n : ℕ). a / n) (mul_comm 2 (2 ^ k) ∙ sym (pow-suc 2 k)))

within : (n a b : ℕ) → a ≤ n → b ≤ n → ((k : ℕ) → bit a k ≡ bit b k) → a ≡ b
within zero a b h j e = omega arith
within (suc n) a b h j e =
    let odd : a % 2 ≡ b % 2 = ap (λ (m : ℕ). m % 2) (sym (div-one a)) ∙ e 0 ∙ ap (λ (m : ℕ). m % 2) (div-one b) in
    let half : a / 2 ≡ b / 2 = within n (a / 2) (b / 2) (omega arith) (omega arith) (λ k. half-bit a k ∙ e (suc k) ∙ sym (half-bit b k)) in
    omega arith

-- two numbers with the same bits are one
pub bits-ext : (a b : ℕ) → ((k : ℕ) → bit a k ≡ bit b k) → a ≡ b
bits-ext a b e = within (a + b) a b (omega arith) (omega arith) e
