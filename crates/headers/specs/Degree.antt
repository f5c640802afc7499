-- Deg[v] of RFC 6330 section 5.3.5.2: the place of v among the thirty-one thresholds, at most W - 2.
-- Assumes nothing.
use Rattle.std.specs.Prelude.{ℕ, zero, suc, ◌-◌, ◌<◌, ◌≤◌, min, List, [], ◌∷◌, nat_le, nat_lt, slice_index, slice_index_or}
use Rattle.field.specs.Choice.{pick}
use Rattle.field.specs.Answer.{Outcome, given, unless}

-- RFC 6330, 5.3.5.2, table 1: f[0] to f[30]
abbrev pub thresholds : List ℕ
thresholds =
    0 ∷ 5243 ∷ 529531 ∷ 704294 ∷ 791675 ∷ 844104 ∷ 879057 ∷ 904023 ∷ 922747 ∷ 937311 ∷ 948962 ∷ 958494 ∷ 966438 ∷ 973160
    ∷ 978921 ∷ 983914 ∷ 988283 ∷ 992138 ∷ 995565 ∷ 998631 ∷ 1001391 ∷ 1003887 ∷ 1006157 ∷ 1008229 ∷ 1010129 ∷ 1011876
    ∷ 1013490 ∷ 1014983 ∷ 1016370 ∷ 1017662 ∷ 1048576 ∷ []

-- d is the interval that holds v: f[d-1] <= v < f[d]
pub record IntervalOf (v d : ℕ) : Type 0 where
  pub low : 1 ≤ d
  pub high : d ≤ 30
  pub from : slice_index_or thresholds (d - 1) 0 ≤ v
  pub to : v < slice_index thresholds d

-- the place of the first number past v
unfoldable pub climb : ℕ → List ℕ → ℕ
climb v [] = zero
climb v (x ∷ xs) = pick (nat_lt v x) zero (suc (climb v xs))

-- the degree of v among w LT symbols; the theorem `interval` says that the climb finds the interval that holds v
unfoldable pub degree : ℕ → ℕ → ℕ
degree v w = min (climb v thresholds) (w - 2)

-- what a call of deg answers
abbrev pub deg_answer : ℕ → ℕ → Outcome ℕ
deg_answer v w = unless (nat_le 1048576 v) 2 (unless (nat_lt w 2) 2 (given (degree v w)))
