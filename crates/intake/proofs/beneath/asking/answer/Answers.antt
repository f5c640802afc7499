-- `intake::beneath::asking::answer` meets its contract: the verdict on the rows that are held.
-- Assumes nothing.
use Rattle.intake.proofs.Answering.{answers-held, settle-ready}
use Rattle.intake.proofs.beneath.asking.answer.Goals as goal

pub settle-requires : goal.settle-requires
settle-requires c =
    let b = c.requires.begun in
    rw (c.l_in-l.ensures, c.t_in-t.ensures) (settle-ready c.complete.ensures _ c.in-Some.is b.0 c.requires.stores_room, b.1)

pub returns-clause-answers_held : goal.returns-clause-answers_held
returns-clause-answers_held c =
    let settled = rw (c.l_in-l.ensures, c.t_in-t.ensures) at c.settle.ensures in
    answers-held c.complete.ensures _ c.in-Some.is _ _ c.counted.result c.requires.begun.0.numbers.counts.t-low settled
    (rw c.l_in-l.ensures at c.counted.ensures)
