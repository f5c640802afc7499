-- `elimination::beneath::rows::next_pivot` meets its contract: the row is 0 at the pivots before number x.
-- Assumes nothing.
use Rattle.elimination.specs.Steps.{Passed}
use Rattle.elimination.proofs.beneath.rows.next_pivot.Given as goal

abbrev pub invariant-loop-x : goal.invariant-loop-x
invariant-loop-x l = Passed l.row l.pivots l.k l.r l.x
