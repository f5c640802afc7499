-- `octet_tables::octet::div` meets its contract: a quotient is the power at the difference of the two logarithms, and 255 more.
-- Assumes nothing.
use mathlib.Core.Path.{sym, ap, ◌∙◌}
use native.Mathlib.Omega.{arith}
use borrow.Author.Tests.{ne_eqb}
use Rattle.field.specs.Octet.{power}
use Rattle.field.specs.Answer.{given}
use Rattle.field.proofs.Laws.{zero-over, logarithm-lt, over-logarithm}
use Rattle.octet_tables.proofs.octet.div.Goals as goal

pub returns-then-a-eq0 : goal.returns-then-a-eq0
returns-then-a-eq0 c =
    let start = c.args in
    rw (ne_eqb start.by 0 c.if-by-eq0.false, c.if-a-eq0.true) (ap given (sym (zero-over start.by)))

pub oct_exp-requires : goal.oct_exp-requires
oct_exp-requires c = omega (arith, logarithm-lt c.args.a)

pub returns : goal.returns
returns c =
    rw (ne_eqb c.args.by 0 (omega arith))
    (ap given
    (c.oct_exp.ensures ∙ ap power (omega arith)
    ∙ sym (over-logarithm c.args.a c.args.by (omega arith) c.ranges.a.fits (omega arith) c.ranges.by.fits)))
