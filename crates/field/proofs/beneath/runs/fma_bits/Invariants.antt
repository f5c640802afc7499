-- `field::beneath::runs::fma_bits` meets its contract: after i turns the first i places of the run hold the sum with the product.
-- Assumes nothing.
use Rattle.field.specs.Runs.{Written, fused}
use Rattle.field.proofs.beneath.runs.fma_bits.Given as goal

abbrev pub invariant-loop-i : goal.invariant-loop-i
invariant-loop-i l = Written (fused l.initial.dst l.at l.c l.src) l.initial.dst l.dst l.at l.i
