-- Linear combinations and spans. A vector is a function of its columns, of any type J; a family of vectors is a function of ℕ, of which
-- the numbers below n count.
-- Assumes nothing.
use Rattle.std.specs.Prelude.{◌≡◌, ℕ, ◌<◌}
use Rattle.linear.specs.Field.{Field}
use Rattle.linear.specs.Total.{total}

module _ (K : Field) where
  open K use {carrier as F, ◌⊗◌}

  infixl 70 ◌⊗◌
  module _ {J : Type 0} where
    -- column j of the combination of w 0 .. w (n - 1) with the coefficients a
    abbrev pub lin : ℕ → (ℕ → F) → (ℕ → J → F) → J → F
    lin n a w j = total K n (λ i. a i ⊗ w i j)

    -- v is a combination of w 0 .. w (n - 1)
    pub record InSpan (n : ℕ) (w : ℕ → J → F) (v : J → F) : Type 0 where
      pub coef : ℕ → F
      pub eq : (j : J) → v j ≡ lin n coef w j

    -- each of w 0 .. w (n - 1) is a combination of u 0 .. u (m - 1)
    abbrev pub Within : ℕ → (ℕ → J → F) → ℕ → (ℕ → J → F) → Type 0
    Within n w m u = (i : ℕ) → i < n → InSpan m u (w i)

    -- w 0 .. w (n - 1) and u 0 .. u (n - 1) span the same
    pub record SameSpan (n : ℕ) (w u : ℕ → J → F) : Type 0 where
      pub to : Within n u n w
      pub back : Within n w n u
