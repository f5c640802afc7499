-- `intake::beneath::fixing::complete` meets its contract: the rows are taken now, or were before.
-- Assumes nothing.
use Rattle.intake.proofs.Stretches.{completes-now}
use Rattle.intake.proofs.beneath.fixing.complete.Goals as goal

pub returns-then-whole : goal.returns-then-whole
returns-then-whole c =
    let a = c.args in
    let late = rw c.mark_in-whole.ensures at c.if-whole.true in
    rw c.progress_in.ensures (completes-now a.state.now a.pivots.now a.rows.now a.values.now c.requires.0 late)
