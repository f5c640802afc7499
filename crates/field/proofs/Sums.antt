-- Sums over a range: term by term, by their last term, with factors, one inside the other; and the unit matrix.
-- Assumes nothing.
use mathlib.Core.Path.{◌≡◌, refl, sym, ap, ap₂, ◌∙◌}
use Prim.Native.Nat.{ℕ, zero, suc, ◌<◌}
use native.Mathlib.Omega.{arith}
use borrow.Author.Tests.{eq-eqb, ne_eqb}
use lib.Bits.{xor_comm, xor_lt, xor_zero_l, xor_zero_r}
use Rattle.field.specs.Octet.{plus, times}
use Rattle.field.specs.Sum.{sum, unit}
use Rattle.field.proofs.Xor.{assoc, swap}
use Rattle.field.proofs.Laws.{times-plus, times-comm, times_zero}

-- equal terms, equal sums
pub sum_same : (n : ℕ) {f g : ℕ → ℕ} → ((k : ℕ) → k < n → f k ≡ g k) → sum n f ≡ sum n g
unfolding sum
sum_same zero e = refl
sum_same (suc n) e = ap₂ plus (e zero (omega arith)) (sum_same n (λ k h. e (suc k) (omega arith)))

pub sum-zero : (n : ℕ) {f : ℕ → ℕ} → ((k : ℕ) → k < n → f k ≡ 0) → sum n f ≡ 0
unfolding sum
sum-zero zero e = refl
sum-zero (suc n) e = ap₂ plus (e zero (omega arith)) (sum-zero n (λ k h. e (suc k) (omega arith)))

-- a sum with one term that is not 0
pub sum-only : (n : ℕ) (f : ℕ → ℕ) (c : ℕ) → c < n → ((k : ℕ) → k < n → (k ≡ c → ⊥) → f k ≡ 0) → sum n f ≡ f c
unfolding sum
sum-only zero f c h e = absurd (omega arith)
sum-only (suc n) f zero h e = ap (plus (f zero)) (sum-zero n (λ k l. e (suc k) (omega arith) (λ q. omega arith))) ∙ xor_zero_r (f zero)
sum-only (suc n) f (suc c) h e =
    ap₂ plus (e zero (omega arith) (λ q. omega arith))
    (sum-only n (λ k. f (suc k)) c (omega arith) (λ k l q. e (suc k) (omega arith) (λ z. q (omega arith))))
    ∙ xor_zero_l (f (suc c))

-- the last term by itself
pub sum-last : (n : ℕ) (f : ℕ → ℕ) → sum (suc n) f ≡ plus (sum n f) (f n)
unfolding sum
sum-last zero f = xor_comm (f zero) 0
sum-last (suc n) f = ap (plus (f zero)) (sum-last n (λ k. f (suc k))) ∙ sym (assoc (f zero) (sum n (λ k. f (suc k))) (f (suc n)))

-- sums added term by term
pub sum-plus : (n : ℕ) (f g : ℕ → ℕ) → sum n (λ k. plus (f k) (g k)) ≡ plus (sum n f) (sum n g)
unfolding sum
sum-plus zero f g = refl
sum-plus (suc n) f g = ap (plus (plus (f zero) (g zero))) (sum-plus n (λ k. f (suc k)) (λ k. g (suc k))) ∙ swap (f zero) (g zero) _ _

-- a factor goes into the sum
pub sum-times : (n c : ℕ) (f : ℕ → ℕ) → times c (sum n f) ≡ sum n (λ k. times c (f k))
unfolding sum
sum-times zero c f = times_zero c
sum-times (suc n) c f = times-plus c (f zero) (sum n (λ k. f (suc k))) ∙ ap (plus (times c (f zero))) (sum-times n c (λ k. f (suc k)))

pub sum-times-left : (n c : ℕ) (f : ℕ → ℕ) → times (sum n f) c ≡ sum n (λ k. times (f k) c)
sum-times-left n c f = times-comm (sum n f) c ∙ sum-times n c f ∙ sum_same n (λ k h. times-comm c (f k))

-- rows first, or columns first
pub sum-swap : (n m : ℕ) (f : ℕ → ℕ → ℕ) → sum n (λ i. sum m (λ j. f i j)) ≡ sum m (λ j. sum n (λ i. f i j))
unfolding sum
sum-swap zero m f = sym (sum-zero m (λ j h. refl))
sum-swap (suc n) m f = ap (plus (sum m (f zero))) (sum-swap n m (λ i. f (suc i))) ∙ sym (sum-plus m (f zero) (λ j. sum n (λ i. f (suc i) j)))

pub sum_lt : (n : ℕ) {f : ℕ → ℕ} → ((k : ℕ) → k < n → f k < 256) → sum n f < 256
unfolding sum
sum_lt zero h = omega arith
sum_lt (suc n) {f} h = xor_lt 8 (f zero) (sum n (λ k. f (suc k))) (h zero (omega arith)) (sum_lt n (λ k l. h (suc k) (omega arith)))

pub unit-same : (i j : ℕ) → i ≡ j → unit i j ≡ 1
unfolding unit
unit-same i j e = rw (eq-eqb i j e)

pub unit-other : (i j : ℕ) → (i ≡ j → ⊥) → unit i j ≡ 0
unfolding unit
unit-other i j n = rw (ne_eqb i j n)
