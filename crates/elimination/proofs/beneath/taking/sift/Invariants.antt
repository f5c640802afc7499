-- `elimination::beneath::taking::sift` meets its contract: before turn k the first k held rows are off the equation, if the stores stood so; where k is r,
-- `zero` is whether its symbol is all 0.
-- Assumes nothing.
use mathlib.Core.Path.{◌≡◌}
use Prim.Native.Nat.{◌-◌, ◌≤◌}
use Rattle.field.specs.Runs.{zero_from}
use Rattle.linear.specs.Elimination.{Stepped}
use Rattle.elimination.specs.Steps.{column}
use Rattle.elimination.specs.Taking.{Wide, Swept}
use Rattle.elimination.proofs.beneath.taking.sift.Given as goal

abbrev pub invariant-loop-k : goal.invariant-loop-k
invariant-loop-k l =
    (l.k ≤ l.r) × Wide l.l l.t l.row l.symbol × (l.r ≤ l.k → l.zero ≡ zero_from l.symbol 0 l.t)
    × (Stepped l.l l.r (column l.pivots) l.rows l.values → Swept l.l l.t l.r l.k l.pivots l.rows l.values l.initial.row l.initial.symbol l.row l.symbol)

abbrev pub decreases-loop-k : goal.decreases-loop-k
decreases-loop-k l = l.r - l.k
