-- `field::beneath::runs::blank` meets its contract: every block that was passed has no octet above 0.
-- Assumes nothing.
use Prim.Native.Nat.{◌-◌, ◌≤◌}
use Rattle.field.specs.Runs.{Blank}
use Rattle.field.proofs.beneath.runs.blank.Given as goal

abbrev pub invariant-loop-x : goal.invariant-loop-x
invariant-loop-x l = (l.from ≤ l.x) × (l.x ≤ l.to) × Blank l.src l.from l.x

abbrev pub decreases-loop-x : goal.decreases-loop-x
decreases-loop-x l = l.to - l.x
