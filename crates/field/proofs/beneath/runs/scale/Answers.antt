use mathlib.Core.Path.{sym, ap, ◌∙◌}
use native.Mathlib.Nat.{zero-add}
use native.Mathlib.Omega.{arith}
use Rattle.field.specs.Octet.{times}
use Rattle.field.proofs.Laws.{times-comm}
use Rattle.field.proofs.Zeros.{telling-none, gathered-more, told-all}
use Rattle.field.proofs.beneath.runs.scale.Goals as goal

pub loop-x-init : goal.loop-x-init
loop-x-init c = telling-none _ _ _

pub loop-x-preserved : goal.loop-x-preserved
loop-x-preserved c =
    gathered-more c.loop-x.seen c.loop-x.invariant (sym (zero-add c.loop-x.x-index)) (omega arith)
    (c.mul.ensures ∙ times-comm _ c.args.c ∙ ap (times c.args.c) (c.loop-x.invariant.written.high c.loop-x.x-index (omega arith)))

pub returns-clause-value : goal.returns-clause-value
returns-clause-value c = (told-all c.loop-x.invariant (omega arith)).1
