-- `field::doubling::mul` meets its contract: with the first i bits of a done, the product is that of the bits to go, and what they make.
-- Assumes nothing.
use mathlib.Core.Path.{◌≡◌}
use Prim.Native.Nat.{◌-◌, ◌/◌, ◌^◌}
use Rattle.field.specs.Octet.{plus, copies, times}
use Rattle.field.proofs.doubling.mul.Given as goal

abbrev pub invariant-loop-i : goal.invariant-loop-i
invariant-loop-i l = plus l.product (copies (8 - l.i) l.copy (l.a / 2 ^ l.i)) ≡ times l.a l.b
