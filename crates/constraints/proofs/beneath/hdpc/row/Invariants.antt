-- `constraints::beneath::hdpc::row` meets its contract: the columns from c on are filled, each from the one to its right, which x is, and then the identity.
-- Assumes nothing.
use mathlib.Core.Path.{◌≡◌}
use Rattle.constraints.specs.Grid.{RowFrom}
use Rattle.constraints.specs.Hdpc.{hdpc}
use Rattle.constraints.proofs.Product.{turned}
use Rattle.constraints.proofs.beneath.hdpc.row.Given as goal

abbrev pub invariant-loop-c : goal.invariant-loop-c
invariant-loop-c l = (l.x ≡ turned l.tables l.n l.h l.i l.c) × RowFrom (hdpc l.tables l.n l.h l.i) l.initial.out l.out l.at l.n l.c
