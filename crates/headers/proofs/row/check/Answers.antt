-- `headers::row::check` meets its contract: with the four numbers that follow, its five are a record.
-- Assumes nothing.
use Rattle.headers.specs.Row.{row_of}
use Rattle.headers.proofs.Accepted.{complete, made_row, of-five}
use Rattle.headers.proofs.row.check.Goals as goal

pub returns : goal.returns
returns c =
    let a = c.args in
    let o = c.in_ok-l.ensures in
    made_row (row_of a.kp a.j a.s a.h a.w) (complete o.derived) (of-five o)
