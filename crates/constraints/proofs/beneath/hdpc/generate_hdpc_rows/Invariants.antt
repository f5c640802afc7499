-- `constraints::beneath::hdpc::generate_hdpc_rows` meets its contract: the columns from c on are filled, first those of the identity, then the
-- powers of alpha, then each from the one to its right.
-- Assumes nothing.
use Prim.Native.Nat.{◌-◌, ◌≤◌}
use Rattle.constraints.specs.Grid.{FilledFrom}
use Rattle.constraints.specs.Hdpc.{hdpc}
use Rattle.constraints.proofs.beneath.hdpc.generate_hdpc_rows.Given as goal

abbrev pub invariant-loop-c : goal.invariant-loop-c
invariant-loop-c l = (l.n ≤ l.c) × FilledFrom (hdpc l.tables l.n l.h) l.initial.out l.out l.at l.h l.l l.c

abbrev pub invariant-loop-c-2 : goal.invariant-loop-c-2
invariant-loop-c-2 l = FilledFrom (hdpc l.tables l.n l.h) l.fn.out l.out l.at l.h l.l l.c
