-- `builders::beneath::adding::add_one` meets its contract.
-- Assumes nothing.
use Rattle.builders.proofs.Adding.{added-one}
use Rattle.builders.proofs.beneath.adding.add_one.Goals as goal

pub returns : goal.returns
returns c =
    let n = c.row_word_width.ensures in
    added-one c.args.i c.args.j c.requires.0 c.requires.1 c.requires.2 (rw n at c.get-v.ensures) (rw n at c.put.ensures)
