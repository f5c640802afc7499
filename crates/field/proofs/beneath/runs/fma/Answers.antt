use mathlib.Core.Path.{refl, ap₂, ◌∙◌}
use native.Mathlib.Omega.{arith}
use Rattle.field.specs.Octet.{plus}
use Rattle.field.proofs.Laws.{times-comm}
use Rattle.field.proofs.Writing.{written_next}
use Rattle.field.proofs.Zeros.{telling-none, gathered-more, told-all}
use Rattle.field.proofs.beneath.runs.fma.Goals as goal

pub loop-i-init : goal.loop-i-init
loop-i-init c = telling-none _ _ _

pub loop-i-preserved : goal.loop-i-preserved
loop-i-preserved c =
    gathered-more c.loop-i.seen c.loop-i.invariant refl (omega arith)
    (ap₂ plus (written_next c.loop-i.invariant.written) (c.mul.ensures ∙ times-comm _ c.args.c))

pub returns-clause-value : goal.returns-clause-value
returns-clause-value c = (told-all c.loop-i.invariant (omega arith)).1
