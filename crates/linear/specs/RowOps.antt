-- The three row operations, each as a relation between the rows before, w, and after, u, so that it holds of what a loop has left in
-- memory, whatever way the loop went about it.
-- Assumes nothing.
use Rattle.std.specs.Prelude.{◌≡◌, ◌≢◌, ℕ, ◌<◌}
use Rattle.linear.specs.Field.{Field}

module _ (K : Field) where
  open K use {carrier as F, ◌⊕◌, ◌⊗◌, 𝟙}

  infixl 60 ◌⊕◌
  infixl 70 ◌⊗◌
  module _ {J : Type 0} where
    -- row k, times a factor for each row, is added to the other rows
    pub record Added (n k : ℕ) (factor : ℕ → F) (w u : ℕ → J → F) : Type 0 where
      pub row_below : k < n
      pub row_kept : (j : J) → u k j ≡ w k j
      pub others : (i : ℕ) → i < n → i ≢ k → (j : J) → u i j ≡ w i j ⊕ factor i ⊗ w k j

    -- row k is multiplied by x, which y undoes
    pub record Scaled (n k : ℕ) (x y : F) (w u : ℕ → J → F) : Type 0 where
      pub row_below : k < n
      pub undone : y ⊗ x ≡ 𝟙
      pub row : (j : J) → u k j ≡ x ⊗ w k j
      pub others : (i : ℕ) → i < n → i ≢ k → (j : J) → u i j ≡ w i j

    -- rows i and k change places
    pub record Swapped (n i k : ℕ) (w u : ℕ → J → F) : Type 0 where
      pub first_below : i < n
      pub second_below : k < n
      pub first : (j : J) → u i j ≡ w k j
      pub second : (j : J) → u k j ≡ w i j
      pub others : (m : ℕ) → m < n → m ≢ i → m ≢ k → (j : J) → u m j ≡ w m j
