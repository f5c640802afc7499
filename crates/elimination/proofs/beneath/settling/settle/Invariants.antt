-- `elimination::beneath::settling::settle` meets its contract: before turn q the symbols meet the held equations from q on, if the stores stood so.
-- Assumes nothing.
use Prim.Native.Nat.{◌*◌}
use Rattle.linear.specs.Back.{MetFrom}
use Rattle.linear.specs.Bytes.{Bytes}
use Rattle.linear.specs.Elimination.{Stepped}
use Rattle.linear.specs.Rows.{OnlyBelow}
use Rattle.elimination.specs.Steps.{column}
use Rattle.elimination.proofs.beneath.settling.settle.Given as goal

abbrev pub invariant-loop-q : goal.invariant-loop-q
invariant-loop-q l =
    OnlyBelow (l.l * l.t) l.initial.out l.out × Bytes l.out
    × (Stepped l.l l.r (column l.pivots) l.rows l.values → MetFrom l.l l.t l.q l.r l.rows l.values l.out)
