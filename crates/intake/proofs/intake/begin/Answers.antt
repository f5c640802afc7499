-- `intake::intake::begin` meets its contract: what is refused, and else the words of a begin.
-- Assumes nothing.
use Rattle.std.proofs.Common.{sym, length, arith}
use Rattle.linear.specs.Bytes.{Bytes}
use Rattle.intake.proofs.Calls.{begins-by, fresh_holds}
use Rattle.intake.proofs.intake.begin.Goals as goal

pub returns : goal.returns
returns c =
    let a = c.args in
    let e = sym c.in_ok-may_begin.ensures in
    let b = begins-by a.r (length a.tables.now) a.k a.t (length a.state.now) (length a.pivots.now) (length a.rows.now) (length a.values.now) e in
    let rows : Bytes a.rows.now = λ i. omega (arith, c.type_inv.rows i) in
    let values : Bytes a.values.now = λ i. omega (arith, c.type_inv.values i) in
    (e, c.open.ensures, fresh_holds _ _ _ _ _ _ _ _ _ b (omega arith) c.open.ensures rows values)
