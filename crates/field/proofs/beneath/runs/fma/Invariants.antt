-- `field::beneath::runs::fma` meets its contract: after i turns the first i places of the run hold the sum with the product, and what they hold is gathered.
-- Assumes nothing.
use lib.Dec.{eqb}
use Rattle.field.specs.Runs.{fused}
use Rattle.field.proofs.Zeros.{Telling}
use Rattle.field.proofs.beneath.runs.fma.Given as goal

abbrev pub invariant-loop-i : goal.invariant-loop-i
invariant-loop-i l = Telling (fused l.initial.dst l.at l.c l.src) l.initial.dst l.dst l.at l.i (eqb l.seen 0)
