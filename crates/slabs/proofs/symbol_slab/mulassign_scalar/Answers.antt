-- `slabs::symbol_slab::mulassign_scalar` meets its contract.
-- Assumes nothing.
use mathlib.Core.Path.{sym}
use lib.ListN.{length}
use Rattle.slabs.proofs.Slabs.{addressed-well, ends}
use Rattle.slabs.proofs.symbol_slab.mulassign_scalar.Goals as goal

pub scale-requires : goal.scale-requires
scale-requires c =
    let a = c.args in
    rw (c.physical_index.ensures, c.from-t.ensures)
    (ends (addressed-well (length a.store.now) a.slab.count a.slab.size a.order.now a.dest (sym c.in_ok-place.ensures)))
