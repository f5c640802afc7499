-- `constraints::beneath::hdpc::next_column` meets its contract: the column to the right is as it was when it is read.
-- Assumes nothing.
use Prim.Native.Nat.{◌+◌, ◌-◌, ◌*◌, ◌≤◌}
use lib.ListN.{get_or}
use Rattle.field.specs.Octet.{plus, doubled}
use Rattle.field.specs.Sum.{unit}
use Rattle.constraints.specs.Grid.{Column}
use Rattle.constraints.proofs.beneath.hdpc.next_column.Given as goal

abbrev pub invariant-loop-i : goal.invariant-loop-i
invariant-loop-i l =
    Column (λ r. plus (plus (doubled (get_or l.initial.out (l.at + r * l.l + l.c + 1) 0)) (unit r l.a)) (unit r l.b))
    l.initial.out l.out l.at l.i l.l l.c
