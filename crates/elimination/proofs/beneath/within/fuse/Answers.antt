use mathlib.Core.Path.{ap, ap₂, ◌∙◌}
use native.Mathlib.Omega.{arith}
use Rattle.field.specs.Octet.{plus, times}
use Rattle.field.proofs.Laws.{times-comm}
use Rattle.field.proofs.Writing.{written_next, written-more}
use Rattle.elimination.proofs.Rows.{apart-still}
use Rattle.elimination.proofs.beneath.within.fuse.Goals as goal

pub loop-c-preserved : goal.loop-c-preserved
loop-c-preserved c =
    let v = c.loop-c.invariant in
    let h = c.loop-c-test.true in
    written-more v (omega arith) (omega (arith, h, c.requires.to_in)) (ap₂ plus (written_next v)
    (c.mul.ensures ∙ times-comm _ c.args.f ∙ ap (times c.args.f) (apart-still v c.requires (omega arith) c.loop-c.c h)))
