-- `intake::beneath::fixing::take_fixed` meets its contract: after i turns i of the rows were taken.
-- Assumes nothing.
use Rattle.headers.specs.Row.{l_of}
use Rattle.elimination.specs.Taking.{Wide}
use Rattle.intake.specs.Taking.{Adds, first_fixed}
use Rattle.intake.proofs.beneath.fixing.take_fixed.Given as goal

abbrev pub invariant-loop-i : goal.invariant-loop-i
invariant-loop-i l =
    Wide (l_of l.r) l.t l.row l.symbol
    × Adds (l_of l.r) l.t (first_fixed l.tables l.r l.k l.i) l.initial.pivots l.initial.rows l.initial.values l.pivots l.rows l.values l.initial.p l.p
