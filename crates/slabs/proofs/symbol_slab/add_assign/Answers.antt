-- `slabs::symbol_slab::add_assign` meets its contract: a sum is a sum with 1 times the symbol.
-- Assumes nothing.
use native.Mathlib.Omega.{arith}
use Rattle.slabs.proofs.Slabs.{sum-told}
use Rattle.slabs.proofs.symbol_slab.add_assign.Goals as goal

pub returns : goal.returns
returns c =
    let a = c.args in sum-told a.store.now c.fma.new.store a.slab a.order.now a.dest a.src c.fma.result (λ k. omega (arith, c.type_inv.store k)) c.fma.ensures
