-- `stores::matrix::add_assign_rows` meets its contract.
-- Assumes nothing.
use mathlib.Core.Path.{sym}
use lib.ListN.{length}
use Rattle.stores.proofs.Shapes.{paired-well, apart}
use Rattle.stores.proofs.matrix.add_assign_rows.Goals as goal

pub add-requires : goal.add-requires
add-requires c =
    let a = c.args in
    let w = paired-well (length a.ws.now) a.m a.m.height a.dest a.m.height a.src (sym c.in_ok-pair.ensures) in
    rw c.row_word_width-n.ensures (apart w c.if-dest-src.false)
