-- `field::beneath::runs::scale` meets its contract: the places that were passed hold the product, and what they hold is gathered.
-- Assumes nothing.
use lib.Dec.{eqb}
use Rattle.field.specs.Runs.{scaled}
use Rattle.field.proofs.Zeros.{Telling}
use Rattle.field.proofs.beneath.runs.scale.Given as goal

abbrev pub invariant-loop-x : goal.invariant-loop-x
invariant-loop-x l = Telling (scaled l.c l.initial.dst) l.initial.dst l.dst 0 l.x-index (eqb l.seen 0)
