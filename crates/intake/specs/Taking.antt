-- The equations that were taken one at a time, whatever they were: how far the elimination has come, and what the stores say then. L symbols of T
-- octets; the held rows stand in a, their symbols in d, their pivots in ps.
-- Assumes nothing.
use Rattle.std.specs.Prelude.{◌≡◌, List, ℕ, ◌+◌, ◌-◌, ◌*◌, ◌≤◌, ◌<◌, ltb, length, Option, Some, None}
use Rattle.field.specs.Choice.{pick}
use Rattle.headers.specs.Row.{Obeys}
use Rattle.headers.specs.declared.row.Row.{Row}
use Rattle.linear.specs.System.{System, joined}
use Rattle.linear.specs.Bytes.{ContradictionBytes}
use Rattle.linear.specs.Rows.{OnlyBelow}
use Rattle.linear.specs.Elimination.{Holds, Stepped}
use Rattle.elimination.specs.Steps.{Pivots, StoresRoom, column}
use Rattle.solver.specs.System.{fixed_with, hdpc_rows}

-- the held equations say what S says; or no set fits it
abbrev pub Says : (L T : ℕ) (S : System ℕ) (ps a d : List ℕ) → Option ℕ → Type 0
Says L T S ps a d (Some r) = Stepped L r (column ps) a d × Holds r L T S a d
Says L T S ps a d None = ContradictionBytes L T S

-- the held rows are no more than there are columns, and each has a column for its pivot
abbrev pub Placed : (L : ℕ) (ps : List ℕ) → Option ℕ → Type 0
Placed L ps (Some r) = (r ≤ L) × ((k : ℕ) → k < r → column ps k < L)
Placed L ps None = Unit {0}

-- one more may be taken, whatever came before it: L places suffice, since a row that depends on the held ones needs none
pub record Takable (L T : ℕ) (ps a d : List ℕ) (p : Option ℕ) : Type 0 where
  pub room : StoresRoom L L T a d
  pub pivots : Pivots L ps
  pub placed : Placed L ps p

-- one equation: its coefficients f, and its symbol g
abbrev pub single : (f g : ℕ → ℕ) → System ℕ
single f g = record { count = 1; coef = λ _. f; byte = λ _. g }

-- the equations of R were taken, which made q of p: nothing past L places changed, and a clash stays
pub record Adds (L T : ℕ) (R : System ℕ) (ps a d ps₁ a₁ d₁ : List ℕ) (p q : Option ℕ) : Type 0 where
  pub rows : OnlyBelow (L * L) a a₁
  pub symbols : OnlyBelow (L * T) d d₁
  pub pivots : OnlyBelow L ps ps₁
  pub placed : Placed L ps₁ q
  pub stays : p ≡ None → q ≡ None
  pub says : (S : System ℕ) → Says L T S ps a d p → Says L T (joined S R) ps₁ a₁ d₁ q

-- ---- the rows that row, tables and K fix

-- what making them asks
pub record Fixing (r : Row) (v : List ℕ) (k : ℕ) : Type 0 where
  pub rules : Obeys r
  pub tables : length v ≡ 1024
  pub k-low : 1 ≤ k
  pub k-high : k ≤ r.kp

-- row i of them, in the order of the solver's system: LDPC, HDPC, padding
abbrev pub fixed_row : List ℕ → Row → ℕ → ℕ → ℕ → ℕ
fixed_row v r k i = (fixed_with (hdpc_rows v r) v r k).coef i

-- which of them is the i-th that is taken: the padding first, and the HDPC rows last, which alone need products
unfoldable pub in_turn : Row → ℕ → ℕ → ℕ
in_turn r k i = pick (ltb i (r.kp - k)) (r.s + r.h + i) (i - (r.kp - k))

-- the first n of them
abbrev pub first_fixed : List ℕ → Row → ℕ → ℕ → System ℕ
first_fixed v r k n = record { count = n; coef = λ i. fixed_row v r k (in_turn r k i); byte = λ i b. 0 }
