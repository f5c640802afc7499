-- `stores::matrix::query_non_zero_columns` meets its contract.
-- Assumes nothing.
use mathlib.Core.Path.{sym}
use lib.ListN.{length}
use Rattle.stores.proofs.Shapes.{listable-well, span-in}
use Rattle.stores.proofs.matrix.query_non_zero_columns.Goals as goal

pub in_row-requires : goal.in_row-requires
in_row-requires c =
    let a = c.args in
    let w = listable-well (length a.ws.now) a.m (length a.out.now) a.m.height a.i a.m.width a.start a.m.width (sym c.in_ok-list.ensures) in
    let r = span-in w.store w.inside w.rising w.ends in
    rw c.row_word_width.ensures (r.0, r.1, w.roomy)
