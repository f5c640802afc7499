-- `elimination::beneath::solving::framed` meets its contract: what the held rows come to is what the verdict means of whatever the stores held.
-- Assumes nothing.
use borrow.Author.Rules.{rules}
use Rattle.linear.specs.Bytes.{Bytes}
use Rattle.elimination.proofs.Solving.{answered-clash, answered-held}
use Rattle.elimination.proofs.beneath.solving.framed.Goals as goal

pub returns-in_default : goal.returns-in_default
returns-in_default g c =
    let bytes : Bytes c.args.values.now = search rules in
    let none = rw c.in_default.is at c.forward_in.ensures.gone in
    let left = c.emptied.ensures in
    answered-clash _ _ _ bytes none c.forward_in.ensures.only_below (left.rows_cleared, (left.values_cleared, left.value))

pub returns : goal.returns
returns g c =
    let u = rw c.in-Some.is at c.forward_in.ensures.gone in
    let left = c.emptied-2.ensures in
    answered-held _ _ _ _ _ _ c.counted.result c.requires.frame.0 u c.settle.ensures c.counted.ensures
    (left.rows_cleared, (left.values_cleared, left.value))
