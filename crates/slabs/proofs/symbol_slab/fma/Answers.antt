-- `slabs::symbol_slab::fma` meets its contract.
-- Assumes nothing.
use mathlib.Core.Path.{sym}
use lib.ListN.{length}
use Rattle.slabs.proofs.Slabs.{addressed-pair-well, apart}
use Rattle.slabs.proofs.symbol_slab.fma.Goals as goal

pub fma-requires : goal.fma-requires
fma-requires c =
    let a = c.args in
    rw (c.physical_index-2.ensures, c.physical_index.ensures, c.from-t.ensures)
    (apart (addressed-pair-well (length a.store.now) a.slab.count a.slab.size a.order.now a.dest a.src (sym c.in_ok-pair.ensures)))
