-- `field::beneath::runs::fuse` meets its contract: a sum is a sum with 1 times the run; else after i turns the first i places of the run hold the sum with
-- the product.
-- Assumes nothing.
use Rattle.field.specs.Runs.{Written, fused}
use Rattle.field.proofs.beneath.runs.fuse.Given as goal

abbrev pub invariant-loop-i : goal.invariant-loop-i
invariant-loop-i l = Written (fused l.initial.dst l.at l.c l.src) l.initial.dst l.dst l.at l.i
