-- `stores::matrix::get` meets its contract.
-- Assumes nothing.
use mathlib.Core.Path.{sym}
use lib.ListN.{length}
use Rattle.stores.proofs.Shapes.{paired-well, word_in}
use Rattle.stores.proofs.matrix.get.Goals as goal

pub get-requires : goal.get-requires
get-requires c =
    let a = c.args in
    let w = paired-well (length a.ws.now) a.m a.m.height a.i a.m.width a.j (sym c.in_ok-pair.ensures) in
    rw c.row_word_width.ensures (word_in w)
