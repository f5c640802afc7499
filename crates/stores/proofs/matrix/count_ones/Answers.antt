-- `stores::matrix::count_ones` meets its contract.
-- Assumes nothing.
use mathlib.Core.Path.{sym}
use lib.ListN.{length}
use Rattle.stores.proofs.Shapes.{spanned-well, span-in}
use Rattle.stores.proofs.matrix.count_ones.Goals as goal

pub count-requires : goal.count-requires
count-requires c =
    let a = c.args in
    let w = spanned-well (length a.ws.now) a.m a.i a.start a.end (sym c.in_ok-span.ensures) in
    rw c.row_word_width.ensures (span-in w.store w.inside w.rising w.ends)
