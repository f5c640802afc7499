-- `octet_tables::octet::mul` meets its contract: a product is the power at the sum of the two logarithms.
-- Assumes nothing.
use mathlib.Core.Path.{sym, ap, ◌∙◌}
use native.Mathlib.Omega.{arith}
use Rattle.field.specs.Octet.{power}
use Rattle.field.proofs.Laws.{zero-times, times_zero, logarithm-lt, times-logarithm}
use Rattle.octet_tables.proofs.octet.mul.Goals as goal

pub returns-then-a-eq0 : goal.returns-then-a-eq0
returns-then-a-eq0 c = rw c.if-a-eq0.true (sym (zero-times c.args.b))

pub returns-then-b-eq0 : goal.returns-then-b-eq0
returns-then-b-eq0 c = rw c.if-b-eq0.true (sym (times_zero c.args.a))

pub oct_exp-requires : goal.oct_exp-requires
oct_exp-requires c =
    let start = c.args in
    omega (arith, logarithm-lt start.a, logarithm-lt start.b)

pub returns : goal.returns
returns c =
    c.oct_exp.ensures ∙ ap power (omega arith)
    ∙ sym (times-logarithm c.args.a c.args.b (omega arith) c.ranges.a.fits (omega arith) c.ranges.b.fits)
