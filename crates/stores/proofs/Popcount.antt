-- A run of bits of a word is counted by the machine's count of ones.
-- Assumes nothing.
use mathlib.Core.Path.{◌≡◌, refl, sym, ap, ap₂, ◌∙◌}
use mathlib.Core.List.{List}
use Prim.Native.Nat.{ℕ, zero, suc, ◌+◌, ◌-◌, ◌*◌, ◌/◌, ◌%◌, ◌^◌, ◌≤◌, ◌<◌}
use native.Mathlib.Nat.{add_comm, add-zero, mod-lt, mul-mod_left, mod-one}
use native.Mathlib.Omega.{arith}
use lib.Count.{ones, ones_in, ones_cat}
use lib.ListN.{get_or}
use lib.Pow.{pow_pos, mod-pow-add, shl-shr, shr-shr}
use Rattle.stores.specs.Bits.{bit, bit_at}
use Rattle.stores.specs.Counting.{tally}
use Rattle.stores.proofs.Bits.{bit-lt}
use Rattle.stores.proofs.Counting.{tally-same, tally-split}

ones_none : ones 0 ≡ 0
unfolding ones ones_in
ones_none = refl

ones_bit : (x : ℕ) → x < 2 → ones x ≡ x
unfolding ones ones_in
ones_bit zero h = refl
ones_bit (suc zero) h = refl
ones_bit (suc (suc x)) h = absurd (omega arith)

-- the low m bits of what stands above bit b
low_ones : (w b m : ℕ) → ones (w / 2 ^ b % 2 ^ m) ≡ tally (bit w) b m
unfolding tally
low_ones w b zero = ap ones (mod-one (w / 2 ^ b)) ∙ ones_none
low_ones w b (suc m) =
    let x = w / 2 ^ b in
    let s : 1 + m ≡ suc m = omega arith in
    ap (λ (i : ℕ). ones (x % 2 ^ i)) (sym s) ∙ ap ones (mod-pow-add x 1 m)
    ∙ ones_cat m (x / 2 ^ m % 2) (x % 2 ^ m) (mod-lt x (pow_pos m))
    ∙ ap₂ ◌+◌ (ones_bit (x / 2 ^ m % 2) (bit-lt x m) ∙ ap (λ (i : ℕ). i % 2) (shr-shr w b m)) (low_ones w b m)
    ∙ add_comm (bit w (b + m)) (tally (bit w) b m)

-- with the bits above shifted out of the word
pub bits-counted : (w b m : ℕ) → m ≤ 64 → ones (w / 2 ^ b * 2 ^ (64 - m) % 2 ^ 64) ≡ tally (bit w) b m
bits-counted w b m h =
    let x = w / 2 ^ b in
    let s = 64 - m in
    let e : m + s ≡ 64 = omega arith in
    ap (λ (i : ℕ). ones (x * 2 ^ s % 2 ^ i)) (sym e) ∙ ap ones (mod-pow-add (x * 2 ^ s) m s)
    ∙ ap₂ (λ (i j : ℕ). ones (i % 2 ^ m * 2 ^ s + j)) (shl-shr x s) (mul-mod_left x (2 ^ s))
    ∙ ones_cat s (x % 2 ^ m) 0 (pow_pos s) ∙ ap (λ (i : ℕ). ones (x % 2 ^ m) + i) ones_none ∙ add-zero (ones (x % 2 ^ m)) ∙ low_ones w b m

-- m columns from column c on, within one word
pub word-counted : (ws : List ℕ) (at c m : ℕ) → c % 64 + m ≤ 64 → tally (bit (get_or ws (at + c / 64) 0)) (c % 64) m ≡ tally (bit_at ws at) c m
word-counted ws at c m h =
    tally-same (bit (get_or ws (at + c / 64) 0)) (bit_at ws at) (c % 64) c m
    (λ k l.
    let q : c / 64 ≡ (c + k) / 64 = omega arith in
    let r : c % 64 + k ≡ (c + k) % 64 = omega arith in
    ap₂ (λ (i j : ℕ). bit (get_or ws (at + i) 0) j) q r)

-- a turn: m columns more
pub count-more : (ws : List ℕ) (at start k m r s : ℕ) → r ≡ tally (bit_at ws at) start k
    → s ≡ tally (bit (get_or ws (at + (start + k) / 64) 0)) ((start + k) % 64) m → (start + k) % 64 + m ≤ 64 → r + s ≡ tally (bit_at ws at) start (k + m)
count-more ws at start k m r s e f h = ap₂ ◌+◌ e (f ∙ word-counted ws at (start + k) m h) ∙ sym (tally-split (bit_at ws at) start k m)
