-- `intake::beneath::stepping::take_held` meets its contract: what became of the equation, and unit rows when the last place is taken.
-- Assumes nothing.
use Rattle.intake.proofs.Steps.{told-adds, full-adds}
use Rattle.intake.proofs.beneath.stepping.take_held.Goals as goal

pub returns-then-more-l : goal.returns-then-more-l
returns-then-more-l c =
    let a = c.args in
    let t = c.take in
    full-adds _ _ _ a.row.now a.symbol.now t.new.pivots t.new.rows t.new.values c.requires.takable t.result t.ensures c.in-Held.is c.if-more-l.true
    c.reduce.new.rows c.reduce.new.values c.reduce.ensures

pub returns-else-more-l : goal.returns-else-more-l
returns-else-more-l c =
    let a = c.args in
    let t = c.take in
    told-adds _ _ _ a.row.now a.symbol.now t.new.pivots t.new.rows t.new.values c.requires.takable t.result t.ensures c.in-Held.is

pub returns-in-Dependent : goal.returns-in-Dependent
returns-in-Dependent c =
    let a = c.args in
    let t = c.take in
    told-adds _ _ _ a.row.now a.symbol.now t.new.pivots t.new.rows t.new.values c.requires.takable t.result t.ensures c.in-Dependent.is

pub returns-in-Clash : goal.returns-in-Clash
returns-in-Clash c =
    let a = c.args in
    let t = c.take in
    told-adds _ _ _ a.row.now a.symbol.now t.new.pivots t.new.rows t.new.values c.requires.takable t.result t.ensures c.in-Clash.is
