-- `intake::beneath::stepping::take_next` meets its contract: the equation is taken, or nothing is left to learn.
-- Assumes nothing.
use Rattle.intake.proofs.Steps.{clash-adds}
use Rattle.intake.proofs.beneath.stepping.take_next.Goals as goal

pub returns-in-Some : goal.returns-in-Some
returns-in-Some c = rw c.in-Some.is c.take_held.ensures

pub returns-in-None : goal.returns-in-None
returns-in-None c = let a = c.args in rw c.in-None.is (clash-adds a.row.now a.symbol.now a.pivots.now a.rows.now a.values.now)
