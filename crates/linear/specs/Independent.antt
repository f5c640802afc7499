-- Independent rows, and the most of them that a matrix has: what demand 3's shortfall is counted by.
-- Assumes nothing.
use Rattle.std.specs.Prelude.{◌≡◌, ◌≢◌, ℕ, ◌≤◌, ◌<◌}
use Rattle.linear.specs.Field.{Field}
use Rattle.linear.specs.Span.{lin, Within}

module _ (K : Field) where
  open K use {carrier as F, 𝟘}

  module _ {J : Type 0} where
    -- only the combination with all coefficients 0 vanishes
    pub record Independent (n : ℕ) (w : ℕ → J → F) : Type 0 where
      pub only_zero : (a : ℕ → F) → ((j : J) → lin K n a w j ≡ 𝟘) → (i : ℕ) → i < n → a i ≡ 𝟘

    -- a vanishing combination with a coefficient other than 0
    pub record Dependent (n : ℕ) (w : ℕ → J → F) : Type 0 where
      pub coef : ℕ → F
      pub vanishes : (j : J) → lin K n coef w j ≡ 𝟘
      pub place : ℕ
      pub below : place < n
      pub other : coef place ≢ 𝟘

    -- n of the rows w 0 .. w (M - 1) that are independent (so that no row is chosen twice: `chosen-once`)
    pub record Choice (M n : ℕ) (w : ℕ → J → F) : Type 0 where
      pub place : ℕ → ℕ
      pub below : (k : ℕ) → k < n → place k < M
      pub free : Independent n (λ k. w (place k))

    -- demand 3: the most rows that are independent are r: some choice of r is, and no choice of more
    pub record MostIndependent (M : ℕ) (w : ℕ → J → F) (r : ℕ) : Type 0 where
      pub some : Choice M r w
      pub most : (n : ℕ) → Choice M n w → n ≤ r

    -- a choice whose span holds every row
    pub record Basis (M r : ℕ) (w : ℕ → J → F) : Type 0 where
      pub choice : Choice M r w
      pub spans : Within K M w r (λ k. w (choice.place k))

    -- v is one of the rows u 0 .. u (N - 1)
    abbrev pub RowOf : (J → F) → ℕ → (ℕ → J → F) → Type 0
    RowOf v N u = (k : ℕ) × (k < N) × ((j : J) → v j ≡ u k j)

    -- each row of the first is a row of the second
    abbrev pub RowsOf : ℕ → (ℕ → J → F) → ℕ → (ℕ → J → F) → Type 0
    RowsOf M w N u = (i : ℕ) → i < M → RowOf (w i) N u
