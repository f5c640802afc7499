-- The equations that two stores hold, taken one after the other, and what they come to.
-- Assumes nothing.
use Rattle.std.specs.Prelude.{◌≡◌, List, ℕ, ◌+◌, ◌-◌, ◌*◌, ◌≤◌, ◌<◌, Option, Some, None}
use Rattle.linear.specs.Bytes.{stored_system, ContradictionBytes}
use Rattle.linear.specs.Rows.{OnlyBelow}
use Rattle.linear.specs.Elimination.{Holds, Stepped}
use Rattle.elimination.specs.Steps.{column}
use Rattle.elimination.specs.Taking.{Lent}
use Rattle.elimination.specs.declared.beneath.taking.Taken.{Taken}
use Rattle.elimination.specs.declared.beneath.taking.Taken.TheVariants as Takens
use Rattle.elimination.specs.declared.verdict.Verdict.{Verdict}
use Rattle.elimination.specs.declared.verdict.Verdict.TheVariants.{Solved, Contradiction, Open}

-- the r held equations say what the first i of those in a₀, d₀ say, and from the i-th on these stand as they did
pub record Under (L T i r : ℕ) (ps a₀ d₀ a d : List ℕ) : Type 0 where
  pub enough : r ≤ i
  pub stands : Stepped L r (column ps) a d
  pub holds : Holds r L T (stored_system i L T a₀ d₀) a d
  pub rows : OnlyBelow (i * L) a₀ a
  pub symbols : OnlyBelow (i * T) d₀ d

-- how many are held then
abbrev pub progressed : ℕ → Taken → Option ℕ
progressed r Takens.Held = Some (r + 1)
progressed r Takens.Dependent = Some r
progressed r Takens.Clash = None

-- when i equations were taken
abbrev pub Gone : (L T i : ℕ) (ps a₀ d₀ a d : List ℕ) → Option ℕ → Type 0
Gone L T i ps a₀ d₀ a d (Some r) = Under L T i r ps a₀ d₀ a d
Gone L T i ps a₀ d₀ a d None = ContradictionBytes L T (stored_system i L T a₀ d₀)

-- r equations are held, in L symbols: all are settled, or so many are not
abbrev pub HeldVerdict : (L r : ℕ) → Verdict → Type 0
HeldVerdict L r Solved = L ≤ r
HeldVerdict L r Contradiction = ⊥
HeldVerdict L r (Open s) = (r < L) × (s ≡ L - r)

-- the held rows, if none is denied, stand there with their pivots
abbrev pub Reached : (L T : ℕ) (ps a d : List ℕ) → Option ℕ → Type 0
Reached L T ps a d (Some r) = Lent L T r ps a d
Reached L T ps a d None = Unit {0}
