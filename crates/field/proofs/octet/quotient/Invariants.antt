-- `field::octet::quotient` meets its contract: the product times the square to the power that is left is the quotient.
-- Assumes nothing.
use mathlib.Core.Path.{◌≡◌}
use Prim.Native.Nat.{◌<◌}
use Rattle.field.specs.Octet.{times, over}
use Rattle.field.proofs.Powers.{nth}
use Rattle.field.proofs.octet.quotient.Given as goal

abbrev pub invariant-loop-exponent : goal.invariant-loop-exponent
invariant-loop-exponent l = (l.product < 256) × (times l.product (nth l.exponent l.square) ≡ over l.a l.by)

abbrev pub decreases-loop-exponent : goal.decreases-loop-exponent
decreases-loop-exponent l = l.exponent
