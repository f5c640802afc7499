-- `stores::matrix::get_ones_in_column` meets its contract.
-- Assumes nothing.
use mathlib.Core.Path.{sym, ap, ◌∙◌}
use Rattle.field.specs.Answer.{given}
use Rattle.field.proofs.Refusals.{went_on}
use Rattle.field.proofs.Writing.{written_is}
use Rattle.stores.proofs.matrix.get_ones_in_column.Goals as goal

pub returns : goal.returns
returns c =
    let l = rw c.row_word_width.ensures at c.in_column.ensures in
    (ap given l.many ∙ sym (went_on c.list.result c.list.ensures _ _ c.in_ok-list.was), written_is l.written l.many)
