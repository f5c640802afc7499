-- `elimination::beneath::solving::forward` meets its contract: after i turns the held equations say what the first i said.
-- Assumes nothing.
use mathlib.Core.Path.{◌≡◌}
use lib.ListN.{length}
use Rattle.elimination.specs.Taking.{Wide}
use Rattle.elimination.specs.Solving.{Under}
use Rattle.elimination.proofs.beneath.solving.forward.Given as goal

abbrev pub invariant-loop-i : goal.invariant-loop-i
invariant-loop-i l =
    Wide l.l l.t l.row l.symbol × Under l.l l.t l.i l.r l.pivots l.initial.rows l.initial.values l.rows l.values
    × (length l.pivots ≡ length l.initial.pivots)
