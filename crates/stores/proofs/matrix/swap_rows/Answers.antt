-- `stores::matrix::swap_rows` meets its contract.
-- Assumes nothing.
use mathlib.Core.Path.{sym}
use lib.ListN.{length}
use Rattle.stores.proofs.Shapes.{paired-well, apart}
use Rattle.stores.proofs.matrix.swap_rows.Goals as goal

pub swap-requires : goal.swap-requires
swap-requires c =
    let a = c.args in
    let w = paired-well (length a.ws.now) a.m a.m.height a.i a.m.height a.j (sym c.in_ok-pair.ensures) in
    rw c.row_word_width-n.ensures (apart w c.if-i-j.false)
