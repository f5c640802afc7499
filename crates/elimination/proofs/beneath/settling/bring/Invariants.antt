-- `elimination::beneath::settling::bring` meets its contract: what row q asks of the symbols before place x of it is on the symbol of its pivot.
-- Assumes nothing.
use Prim.Native.Nat.{◌+◌, ◌*◌, ◌-◌, ◌≤◌, ◌<◌}
use Rattle.linear.specs.Back.{Brought}
use Rattle.linear.specs.Rows.{OnlyBelow}
use Rattle.elimination.proofs.beneath.settling.bring.Given as goal

abbrev pub invariant-loop-x : goal.invariant-loop-x
invariant-loop-x l =
    (l.q * l.l + l.p < l.x) × (l.x ≤ l.q * l.l + l.l) × OnlyBelow (l.l * l.t) l.initial.out l.out
    × Brought l.l l.t (l.x - l.q * l.l) l.q l.p l.rows l.values l.initial.out l.out

abbrev pub decreases-loop-x : goal.decreases-loop-x
decreases-loop-x l = l.q * l.l + l.l - l.x
