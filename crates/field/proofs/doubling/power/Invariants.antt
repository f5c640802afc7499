-- `field::doubling::power` meets its contract: after k turns x is the power k.
-- Assumes nothing.
use mathlib.Core.Path.{◌≡◌}
use Rattle.field.specs.Octet.{power}
use Rattle.field.proofs.doubling.power.Given as goal

abbrev pub invariant-loop-k : goal.invariant-loop-k
invariant-loop-k l = l.x ≡ power l.k
