-- As many held rows as there are columns, made unit rows in place (document 02, E14).
-- Assumes nothing.
use Rattle.std.specs.Prelude.{◌≡◌, ◌≢◌, List, ℕ, ◌*◌, ◌<◌}
use Rattle.field.specs.Sum.{unit}
use Rattle.linear.specs.System.{System}
use Rattle.linear.specs.Bytes.{Bytes, cell}
use Rattle.linear.specs.Rows.{OnlyBelow}
use Rattle.linear.specs.Elimination.{Holds, Keeps, Stepped}
use Rattle.elimination.specs.Steps.{column}

-- row q is 1 in column c and 0 in the others
abbrev pub UnitRow : (L q c : ℕ) (a : List ℕ) → Type 0
UnitRow L q c a = (x : ℕ) → x < L → cell L a q x ≡ unit x c

-- the first n rows are 0 in column c and else as they were; where row q is the unit row of that column, the equations say what they said
pub record ColumnCleared (L T n q c : ℕ) (a d a₁ d₁ : List ℕ) : Type 0 where
  pub rows : OnlyBelow (n * L) a a₁
  pub symbols : OnlyBelow (n * T) d d₁
  pub gone : (j : ℕ) → j < n → cell L a₁ j c ≡ 0
  pub others : (k x : ℕ) → x < L → x ≢ c → cell L a₁ k x ≡ cell L a k x
  pub keeps : UnitRow L q c a → Bytes a → (m : ℕ) → q < m → Keeps m L T a d a₁ d₁
  pub row-bytes : Bytes a → Bytes a₁
  pub symbol-bytes : Bytes d → Bytes d₁

-- With as many held rows as there are columns the rows become unit rows in place, each with the symbol that its equation settles, and say what
-- they said.
pub record Reduces (L T : ℕ) (ps a d a₁ d₁ : List ℕ) : Type 0 where
  pub rows : OnlyBelow (L * L) a a₁
  pub symbols : OnlyBelow (L * T) d d₁
  pub units : Stepped L L (column ps) a d → (k : ℕ) → k < L → UnitRow L k (column ps k) a₁
  pub stands : Stepped L L (column ps) a d → Stepped L L (column ps) a₁ d₁
  pub says : Stepped L L (column ps) a d → (S : System ℕ) → Holds L L T S a d → Holds L L T S a₁ d₁
