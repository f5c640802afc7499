use mathlib.Core.Path.{refl, ap₂, ◌∙◌}
use native.Mathlib.Omega.{arith}
use Rattle.field.specs.Octet.{plus}
use Rattle.field.proofs.Laws.{times-comm}
use Rattle.field.proofs.Writing.{added-fused, written_next, written-more}
use Rattle.field.proofs.beneath.runs.fuse.Goals as goal

pub returns-then-c-eq1 : goal.returns-then-c-eq1
returns-then-c-eq1 c = added-fused c.args.src.now c.args.c c.if-c-eq1.true (λ x. omega (arith, c.type_inv.src x)) c.add.ensures.written

pub loop-i-preserved : goal.loop-i-preserved
loop-i-preserved c =
    written-more c.loop-i.invariant refl (omega arith) (ap₂ plus (written_next c.loop-i.invariant) (c.mul.ensures ∙ times-comm _ c.args.c))
