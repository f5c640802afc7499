-- `elimination::beneath::onto::make_one` meets its contract: what is 1 there stays as it is.
-- Assumes nothing.
use native.Mathlib.Omega.{arith}
use Rattle.elimination.proofs.Buffers.{times_none}
use Rattle.elimination.proofs.beneath.onto.make_one.Goals as goal

pub returns-then-f-eq1-clause-row_times : goal.returns-then-f-eq1-clause-row_times
returns-then-f-eq1-clause-row_times c = times_none (λ x. omega (arith, c.type_inv.row x)) c.if-f-eq1.true

pub returns-then-f-eq1-clause-symbol_times : goal.returns-then-f-eq1-clause-symbol_times
returns-then-f-eq1-clause-symbol_times c = times_none (λ x. omega (arith, c.type_inv.symbol x)) c.if-f-eq1.true
