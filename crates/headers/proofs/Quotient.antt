-- Quotients rounded up: how they are computed, and how large they are.
-- Assumes nothing.
use Rattle.std.proofs.Common.{◌≡◌, ℕ, ◌+◌, ◌-◌, ◌*◌, ◌/◌, ◌%◌, ◌<◌, ◌≤◌, sym, ap, ◌∙◌, mod-lt, div-lt_iff_lt-mul, add-mul, one-mul, div-add-mod', le-mul_of_pos_right, arith}
use lib.Arith.{digits_div}
use Rattle.headers.specs.Quotient.{ceil}

module _ (a b : ℕ) (h : 0 < b) where
  -- a quotient with no remainder
  pub ceil-exact : a % b ≡ 0 → a / b ≡ ceil a b
  unfolding ceil
  ceil-exact e =
      let m : a + (b - 1) ≡ a / b * b + (b - 1) = omega (arith, div-add-mod' a b) in
      sym (ap (λ (x : ℕ). x / b) m ∙ digits_div (a / b) (omega arith))

  -- and one with a remainder
  pub ceil-more : (a % b ≡ 0 → ⊥) → a / b + 1 ≡ ceil a b
  unfolding ceil
  ceil-more d =
      let m : a + (b - 1) ≡ (a / b + 1) * b + (a % b - 1) = omega (arith, div-add-mod' a b, add-mul (a / b) 1 b, one-mul b) in
      sym (ap (λ (x : ℕ). x / b) m ∙ digits_div (a / b + 1) (omega (arith, mod-lt a h)))

  -- which leaves room for one more
  pub quotient-lt : (a % b ≡ 0 → ⊥) → a / b < a
  quotient-lt d = omega (arith, div-add-mod' a b, le-mul_of_pos_right (a / b) h)

  -- the definition is the smallest n with a at most n times b: large enough, and no smaller does
  pub ceil-least : (n : ℕ) → a ≤ n * b → ceil a b ≤ n
  unfolding ceil
  ceil-least n l =
      let m : a + (b - 1) < (n + 1) * b = omega (arith, add-mul n 1 b, one-mul b) in
      let d : (a + (b - 1)) / b < n + 1 = (div-lt_iff_lt-mul h).1 m in
      omega arith

  pub ceil-enough : a ≤ ceil a b * b
  unfolding ceil
  ceil-enough = omega (arith, div-add-mod' (a + (b - 1)) b, mod-lt (a + (b - 1)) h)

  pub ceil-le : ceil a b ≤ a
  ceil-le = ceil-least a (le-mul_of_pos_right a h)
