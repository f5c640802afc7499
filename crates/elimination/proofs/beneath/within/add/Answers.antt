-- `elimination::beneath::within::add` meets its contract: a factor 1 asks for no product.
-- Assumes nothing.
use borrow.Author.Rules.{rules}
use Rattle.linear.specs.Bytes.{Bytes}
use Rattle.linear.proofs.Rows.{row-added-once}
use Rattle.elimination.proofs.beneath.within.add.Goals as goal

pub returns-then-f-eq1 : goal.returns-then-f-eq1
returns-then-f-eq1 c =
    let s = c.args in
    let octets : Bytes s.store.now = search rules in
    rw c.if-f-eq1.true (row-added-once s.i s.k octets c.sum.ensures)
