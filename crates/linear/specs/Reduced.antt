-- The reduced form of a system, and the form on the way to it: by these every system is shown to have one of the three answers.
-- Assumes nothing.
use Rattle.std.specs.Prelude.{◌≡◌, ℕ, ◌≤◌, ◌<◌}
use Rattle.linear.specs.Field.{Field}
use Rattle.linear.specs.Total.{delta}

module _ (K : Field) where
  open K use {carrier as F, 𝟘}

  -- The first r of M rows have a pivot each, below L: 1 there, and 0 at the pivots of the others. The other rows are 0 below L.
  pub record Reduced (L M : ℕ) (A : ℕ → ℕ → F) (r : ℕ) : Type 0 where
    pub enough : r ≤ M
    pub pivot : ℕ → ℕ
    pub pivot-below : (k : ℕ) → k < r → pivot k < L
    pub unit : (i k : ℕ) → i < r → k < r → A i (pivot k) ≡ delta K i k
    pub rest : (i : ℕ) → r ≤ i → i < M → (c : ℕ) → c < L → A i c ≡ 𝟘

  -- The first r of M rows have a pivot each, and at a pivot every other row of the M has 0. Nothing is said of the columns between, so
  -- that the next pivot may be any entry of the rows from r on that is not 0.
  pub record Partly (L M : ℕ) (A : ℕ → ℕ → F) (r : ℕ) : Type 0 where
    pub enough : r ≤ M
    pub pivot : ℕ → ℕ
    pub pivot-below : (k : ℕ) → k < r → pivot k < L
    pub unit : (i k : ℕ) → i < M → k < r → A i (pivot k) ≡ delta K i k
