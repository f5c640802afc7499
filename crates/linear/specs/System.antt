-- Systems of equations whose right sides are symbols of T entries, what it is for a set of L symbols to fit one, and the three answers
-- of demand 3.
-- Assumes nothing.
use Rattle.std.specs.Prelude.{◌≡◌, ◌⊎◌, ℕ, ◌+◌, ◌<◌}
use Rattle.std.proofs.Common.{inl, inr}
use Rattle.linear.specs.Field.{Field}
use Rattle.linear.specs.Index.{Col, ahead, cut}
use Rattle.linear.specs.Total.{total}
use Rattle.linear.specs.Span.{Within}
use Rattle.linear.specs.Independent.{MostIndependent}

-- equation i: the sum of coef i c times symbol c, over the columns c, is the symbol with the entries byte i t
pub record System (F : Type 0) : Type 0 where
  pub count : ℕ
  pub coef : ℕ → ℕ → F
  pub byte : ℕ → ℕ → F

-- the sum of two systems: the equations of S, and those of R after them
abbrev pub joined : {F : Type 0} → System F → System F → System F
joined S R = record { count = S.count + R.count; coef = ahead S.count S.coef R.coef; byte = ahead S.count S.byte R.byte }

-- the entries of a set of symbols: symbol, place in the symbol
abbrev pub Symbols : Type 0 → Type 0
Symbols F = ℕ → ℕ → F

-- the same set of L symbols of T entries
pub record Same {F : Type 0} (L T : ℕ) (C D : Symbols F) : Type 0 where
  pub at : (c : ℕ) → c < L → (t : ℕ) → t < T → C c t ≡ D c t

-- equation i of S is equation k of R
pub record SameEquation {F : Type 0} (L T : ℕ) (S : System F) (i : ℕ) (R : System F) (k : ℕ) : Type 0 where
  pub coefs : (c : ℕ) → c < L → S.coef i c ≡ R.coef k c
  pub bytes : (t : ℕ) → t < T → S.byte i t ≡ R.byte k t

-- equation i of S is an equation of R
abbrev pub OneOf : {F : Type 0} (L T : ℕ) (S : System F) (i : ℕ) (R : System F) → Type 0
OneOf L T S i R = (k : ℕ) × (k < R.count) × SameEquation L T S i R k

-- each equation of S is an equation of R: neither order nor repetition counts
abbrev pub Included : {F : Type 0} (L T : ℕ) (S R : System F) → Type 0
Included L T S R = (i : ℕ) → i < S.count → OneOf L T S i R

-- an equation as one vector: L coefficients and T bytes
unfoldable pub equation : {F : Type 0} (L T : ℕ) → System F → ℕ → Col L ⊎ Col T → F
equation L T S i (inl c) = S.coef i c.0
equation L T S i (inr t) = S.byte i t.0

module _ (K : Field) (L T : ℕ) where
  open K use {carrier as F, ◌⊗◌}

  infixl 70 ◌⊗◌
  -- demand 3: C meets every constraint and yields every symbol that arrived
  pub record Fits (S : System F) (C : Symbols F) : Type 0 where
    pub meets : (i : ℕ) → i < S.count → (t : ℕ) → t < T → total K L (λ c. S.coef i c ⊗ C c t) ≡ S.byte i t

  -- the equations of R follow from those of S
  abbrev pub Follows : System F → System F → Type 0
  Follows S R = Within K R.count (equation L T R) S.count (equation L T S)

  -- demand 3, solved: a single set fits, and it is C
  pub record Solved (S : System F) (C : Symbols F) : Type 0 where
    pub fits : Fits S C
    pub only : (D : Symbols F) → Fits S D → Same L T D C

  -- demand 3, contradiction: no set fits
  pub record Contradiction (S : System F) : Type 0 where
    pub none : (C : Symbols F) → ¬ Fits S C

  -- demand 3, open otherwise: sets fit that differ
  pub record Open (S : System F) : Type 0 where
    pub first : Symbols F
    pub second : Symbols F
    pub first_fits : Fits S first
    pub second_fits : Fits S second
    pub differ : ¬ Same L T first second

  -- demand 3, the shortfall: L less the most rows that are independent
  pub record Shortfall (S : System F) (s : ℕ) : Type 0 where
    pub rank : ℕ
    pub most : MostIndependent K S.count (cut L S.coef) rank
    pub less : s + rank ≡ L

  -- the answer of a system, with the shortfall that goes with it
  pub data Answer (S : System F) : Type 0 where
    contradicted : Contradiction S → Answer S
    settled : (C : Symbols F) → Solved S C → Shortfall S 0 → Answer S
    left_open : (s : ℕ) → Open S → Shortfall S s → 0 < s → Answer S
