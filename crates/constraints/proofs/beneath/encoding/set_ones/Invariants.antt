-- `constraints::beneath::encoding::set_ones` meets its contract: after i turns the run holds the sum over the first i places.
-- Assumes nothing.
use lib.ListN.{get_or}
use Rattle.field.specs.Runs.{Written}
use Rattle.field.specs.Sum.{sum, unit}
use Rattle.constraints.proofs.beneath.encoding.set_ones.Given as goal

abbrev pub invariant-loop-c : goal.invariant-loop-c
invariant-loop-c l = Written (λ c. sum l.c-index (λ k. unit c (get_or l.list k 0))) l.initial.out l.out l.at l.l
