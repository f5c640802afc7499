-- `delivery::beneath::block::rebuild` meets its contract.
-- Assumes nothing.
use mathlib.Core.Path.{refl}
use Prim.Native.Nat.{ℕ}
use native.Mathlib.Omega.{arith}
use Rattle.field.proofs.Writing.{written_none, written_is}
use Rattle.field.proofs.Parts.{block-ends}
use Rattle.delivery.proofs.Gathering.{block_more}
use Rattle.delivery.proofs.beneath.block.rebuild.Goals as goal

pub loop-i-init : goal.loop-i-init
loop-i-init c = written_is (written_none _ _ _) (omega arith)

pub overflow_mul-from : goal.overflow_mul-from
overflow_mul-from c = omega (arith, block-ends {i = c.loop-i.i} {m = c.args.k} c.args.t c.loop-i-test.true, c.requires.room)

pub overflow_add-end : goal.overflow_add-end
overflow_add-end c = omega (arith, block-ends {i = c.loop-i.i} {m = c.args.k} c.args.t c.loop-i-test.true, c.requires.room)

pub slice_bounds-encode-end : goal.slice_bounds-encode-end
slice_bounds-encode-end c = omega (arith, block-ends {i = c.loop-i.i} {m = c.args.k} c.args.t c.loop-i-test.true, c.requires.room)

pub loop-i-preserved : goal.loop-i-preserved
loop-i-preserved c =
    let a = c.args in
    let m = c.requires in
    block_more a.tables.now a.r a.k a.t c.loop-i.i _ a.intermediates.now _ m.rules m.tables m.k-high c.loop-i-test.true m.t-low m.symbols refl
    (omega (arith, block-ends {i = c.loop-i.i} {m = a.k} a.t c.loop-i-test.true, m.room)) c.loop-i.invariant c.encode.ensures
