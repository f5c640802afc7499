-- Powers of any octet. The inverse is the power 254, and a power goes by the bits of its exponent: a square for each, and a product for each that is set.
-- Assumes nothing.
use mathlib.Core.Path.{◌≡◌, refl, sym, ap, ◌∙◌}
use Prim.Native.Nat.{ℕ, zero, suc, ◌+◌, ◌/◌, ◌%◌, ◌<◌}
use native.Mathlib.Nat.{zero-add, suc-add, add-suc}
use native.Mathlib.Omega.{arith}
use lib.Dec.{eqb}
use Rattle.field.specs.Choice.{pick}
use Rattle.field.specs.Octet.{times, squares, inverse, over}
use Rattle.field.proofs.Laws.{bit, times-assoc, times-one}

-- b times itself, n factors
unfoldable pub nth : ℕ → ℕ → ℕ
nth zero b = 1
nth (suc n) b = times b (nth n b)

-- of the square it takes half as many
nth-square : (n b : ℕ) → nth n (times b b) ≡ nth (n + n) b
unfolding nth
nth-square zero b = refl
nth-square (suc n) b =
    ap (times (times b b)) (nth-square n b) ∙ times-assoc b b (nth (n + n) b)
    ∙ sym (ap (λ (m : ℕ). nth m b) (suc-add n (suc n) ∙ ap suc (add-suc n n)))

-- and where the exponent is odd, one factor goes out
by-lowest : (m a b x : ℕ) → x < 2 → times (pick (eqb x 1) (times a b) a) (nth m (times b b)) ≡ times a (nth (x + (m + m)) b)
unfolding nth
by-lowest m a b =
    let one : suc (m + m) ≡ 1 + (m + m) = omega arith in
    bit (λ (x : ℕ). times (pick (eqb x 1) (times a b) a) (nth m (times b b)) ≡ times a (nth (x + (m + m)) b))
    (ap (times a) (nth-square m b ∙ ap (λ (k : ℕ). nth k b) (sym (zero-add (m + m)))))
    (ap (times (times a b)) (nth-square m b) ∙ times-assoc a b (nth (m + m) b) ∙ ap (λ (k : ℕ). times a (nth k b)) one)

pub nth-half : (n a b : ℕ) → times (pick (eqb (n % 2) 1) (times a b) a) (nth (n / 2) (times b b)) ≡ times a (nth n b)
nth-half n a b =
    let halves : n % 2 + (n / 2 + n / 2) ≡ n = omega arith in
    by-lowest (n / 2) a b (n % 2) (omega arith) ∙ ap (λ (k : ℕ). times a (nth k b)) halves

pub nth-none : (a b : ℕ) → a < 256 → times a (nth 0 b) ≡ a
unfolding nth
nth-none a b h = times-one a h

-- 2^n - 1
all_ones : ℕ → ℕ
all_ones zero = 0
all_ones (suc n) = suc (all_ones n + all_ones n)

squares-nth : (n b : ℕ) → squares n b ≡ nth (all_ones n) b
unfolding squares nth all_ones
squares-nth zero b = refl
squares-nth (suc n) b = ap (times b) (squares-nth n (times b b) ∙ nth-square (all_ones n) b)

pub inverse-nth : (b : ℕ) → inverse b ≡ nth 254 b
unfolding inverse all_ones
inverse-nth b = squares-nth 7 (times b b) ∙ nth-square 127 b

pub over-nth : (a b : ℕ) → over a b ≡ times a (nth 254 b)
unfolding over
over-nth a b = ap (times a) (inverse-nth b)
