-- `field::beneath::runs::add` meets its contract: after i turns the first i places of the run hold the sum, and what they hold is gathered.
-- Assumes nothing.
use lib.Dec.{eqb}
use Rattle.field.specs.Runs.{added}
use Rattle.field.proofs.Zeros.{Telling}
use Rattle.field.proofs.beneath.runs.add.Given as goal

abbrev pub invariant-loop-i : goal.invariant-loop-i
invariant-loop-i l = Telling (added l.initial.dst l.at l.src) l.initial.dst l.dst l.at l.i (eqb l.seen 0)
