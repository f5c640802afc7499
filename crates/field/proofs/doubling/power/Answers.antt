use mathlib.Core.Path.{refl, sym, ap, ◌∙◌}
use native.Mathlib.Numerals.{add-one}
use Rattle.field.specs.Octet.{doubled, power}
use Rattle.field.proofs.doubling.power.Goals as goal

pub loop-k-init : goal.loop-k-init
unfolding power
loop-k-init c = refl

pub loop-k-preserved : goal.loop-k-preserved
unfolding power
loop-k-preserved c = c.double-x.ensures ∙ ap doubled c.loop-k.invariant ∙ sym (ap power (add-one c.loop-k.k))
