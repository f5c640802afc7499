-- `constraints::beneath::encoding::tuple_row` meets its contract: the walk is laid into a list of 33, and its places are set in a cleared run.
-- Assumes nothing.
use borrow.Author.Rules.{rules}
use Rattle.constraints.proofs.Marks.{markable, marked}
use Rattle.constraints.proofs.beneath.encoding.tuple_row.Goals as goal

pub set_ones-requires : goal.set_ones-requires
set_ones-requires c =
    let a = c.args in
    markable a.w a.p a.p1 a.t c.requires.0 c.requires.1 c.requires.2 c.enc_indices.ensures c.clear.ensures c.requires.3
    (search rules)

pub returns : goal.returns
returns c =
    let a = c.args in
    marked a.w a.p a.p1 a.t c.requires.0 c.requires.1 c.requires.2 c.enc_indices.ensures c.clear.ensures c.requires.3
    c.set_ones.ensures
