-- `constraints::beneath::hdpc::unit_column` meets its contract.
-- Assumes nothing.
use Prim.Native.Nat.{◌-◌, ◌≤◌}
use Rattle.field.specs.Sum.{unit}
use Rattle.constraints.specs.Grid.{Column}
use Rattle.constraints.proofs.beneath.hdpc.unit_column.Given as goal

abbrev pub invariant-loop-i : goal.invariant-loop-i
invariant-loop-i l = Column (λ r. unit r l.one) l.initial.out l.out l.at l.i l.l l.c
