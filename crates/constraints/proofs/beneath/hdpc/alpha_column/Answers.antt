use mathlib.Core.Path.{refl, sym, ap, ◌∙◌}
use native.Mathlib.Numerals.{add-one}
use native.Mathlib.Omega.{arith}
use Rattle.field.specs.Octet.{doubled, power}
use Rattle.constraints.proofs.Grid.{inside, column-none, column-more}
use Rattle.constraints.proofs.beneath.hdpc.alpha_column.Goals as goal

pub loop-i-init : goal.loop-i-init
unfolding power
loop-i-init c = (refl, column-none _ _ _ _ _)

pub loop-i-preserved : goal.loop-i-preserved
unfolding power
loop-i-preserved c =
    let h = c.loop-i.invariant in (
      c.double-x.ensures ∙ ap doubled h.0 ∙ ap power (sym (add-one c.loop-i.i)),
      column-more h.1 (omega arith) (inside c.requires c.loop-i.i c.loop-i-test.true) h.0,
    )
