-- `constraints::beneath::hdpc::alpha_column` meets its contract: x is the power of the row's number.
-- Assumes nothing.
use mathlib.Core.Path.{◌≡◌}
use Prim.Native.Nat.{◌-◌, ◌≤◌}
use Rattle.field.specs.Octet.{power}
use Rattle.constraints.specs.Grid.{Column}
use Rattle.constraints.proofs.beneath.hdpc.alpha_column.Given as goal

abbrev pub invariant-loop-i : goal.invariant-loop-i
invariant-loop-i l = (l.x ≡ power l.i) × Column power l.initial.out l.out l.at l.i l.l l.c
