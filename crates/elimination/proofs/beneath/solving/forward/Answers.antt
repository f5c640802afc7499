use Rattle.elimination.proofs.Solving.{gone_on, only-on}
use Rattle.elimination.proofs.beneath.solving.forward.Goals as goal

pub returns-in_err-r-clause-only_below : goal.returns-in_err-r-clause-only_below
returns-in_err-r-clause-only_below c =
    let h = c.loop-i-test.true in
    let u = c.loop-i.invariant.1 in
    (only-on c.args.l h u.rows c.advance.ensures.only_below.0, only-on c.args.t h u.symbols c.advance.ensures.only_below.1)

pub returns-in_err-r-clause-gone : goal.returns-in_err-r-clause-gone
returns-in_err-r-clause-gone c =
    let a = c.args in
    let none = rw c.in_err-r.was at (c.advance.ensures.one_more _ _ c.loop-i.invariant.1) in
    rw c.from_residual.ensures (gone_on a.l a.t a.rows.now a.values.now c.loop-i-test.true none)
