-- Finite sums over a field, from the front as `sum` of octets is, and the Kronecker delta.
-- Assumes nothing.
use Rattle.std.specs.Prelude.{ℕ, zero, suc}
use Rattle.linear.specs.Field.{Field}

module _ (K : Field) where
  open K use {carrier as F, ◌⊕◌, 𝟘, 𝟙}

  infixl 60 ◌⊕◌
  -- f 0 ⊕ f 1 ⊕ .. ⊕ f (n - 1)
  unfoldable pub total : ℕ → (ℕ → F) → F
  total zero f = 𝟘
  total (suc n) f = f zero ⊕ total n (λ i. f (suc i))

  -- 1 where the two are equal, else 0
  unfoldable pub delta : ℕ → ℕ → F
  delta zero zero = 𝟙
  delta zero (suc j) = 𝟘
  delta (suc i) zero = 𝟘
  delta (suc i) (suc j) = delta i j
