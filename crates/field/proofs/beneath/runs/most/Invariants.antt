-- `field::beneath::runs::most` meets its contract: no octet that was passed is above the largest.
-- Assumes nothing.
use Prim.Native.Nat.{ℕ, ◌≤◌, ◌<◌}
use lib.ListN.{get_or}
use Rattle.field.proofs.beneath.runs.most.Given as goal

abbrev pub invariant-loop-x : goal.invariant-loop-x
invariant-loop-x l = (k : ℕ) → k < l.x-index → get_or l.src k 0 ≤ l.largest
