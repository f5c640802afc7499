-- `field::beneath::runs::fma_symbol` meets its contract: a sum is a sum with 1 times the run.
-- Assumes nothing.
use native.Mathlib.Omega.{arith}
use Rattle.field.proofs.Writing.{added-fused}
use Rattle.field.proofs.beneath.runs.fma_symbol.Goals as goal

pub returns-then-c-eq1-clause-written : goal.returns-then-c-eq1-clause-written
returns-then-c-eq1-clause-written c =
    added-fused c.args.src.now c.args.c c.if-c-eq1.true (λ x. omega (arith, c.type_inv.src x)) c.add.ensures.written
