-- `headers::beneath::row::verify` meets its contract: a record that obeys has the numbers that follow, and one that does not has the part of its first
-- broken rule.
-- Assumes nothing.
use Rattle.std.proofs.Common.{◌≡◌, sym, arith}
use Rattle.std.specs.Prelude.{Result}
use Rattle.field.specs.Answer.{outcome}
use Rattle.field.specs.declared.refusal.Refusal.{Refusal}
use Rattle.field.proofs.Refusals.{handed}
use Rattle.headers.specs.Row.{verified}
use Rattle.headers.proofs.Rules.{obeyed}
use Rattle.headers.proofs.Accepted.{breaks-derived, five-refused, of-five, with-derived}
use Rattle.headers.proofs.beneath.row.verify.Goals as goal

pub returns-in_err-l : goal.returns-in_err-l
returns-in_err-l c =
    let r = c.args.r in
    handed (λ (x : Result (Unit {0}) Refusal). outcome x ≡ verified r) c.from_residual.result c.from_residual.ensures.1
    (sym (five-refused r _ (c.in_err-l.ensures)))

pub returns-then-r-l : goal.returns-then-r-l
returns-then-r-l c =
    let fine = c.in_ok-l.ensures in
    let d = fine.derived in
    sym (breaks-derived c.args.r (of-five fine) (λ o. omega (arith, c.if-r-l.true, d.l-fits, o.l-fits)))

pub returns-then-r-p : goal.returns-then-r-p
returns-then-r-p c =
    let fine = c.in_ok-l.ensures in
    let d = fine.derived in
    sym (breaks-derived c.args.r (of-five fine) (λ o. omega (arith, c.if-r-p.true, d.p-fits, o.p-fits)))

pub returns-then-r-b : goal.returns-then-r-b
returns-then-r-b c =
    let fine = c.in_ok-l.ensures in
    let d = fine.derived in
    sym (breaks-derived c.args.r (of-five fine) (λ o. omega (arith, c.if-r-b.true, d.b-fits, o.b-fits)))

pub returns-then-r-p1 : goal.returns-then-r-p1
returns-then-r-p1 c =
    let fine = c.in_ok-l.ensures in
    let d = fine.derived in
    sym (breaks-derived c.args.r (of-five fine) (λ o. omega (arith, c.if-r-p1.true, d.p1-fits, o.p1-fits)))

pub returns : goal.returns
returns c =
    let fine = c.in_ok-l.ensures in
    let d = fine.derived in
    sym (obeyed (with-derived (of-five fine)
    (record {
      l-fits = omega (arith, c.if-r-l.false, d.l-fits);
      p-fits = omega (arith, c.if-r-p.false, d.p-fits);
      b-fits = omega (arith, c.if-r-b.false, d.b-fits);
      p1-fits = omega (arith, c.if-r-p1.false, d.p1-fits);
    })))
