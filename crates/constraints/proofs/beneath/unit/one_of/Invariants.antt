-- `constraints::beneath::unit::one_of` meets its contract.
-- Assumes nothing.
use Prim.Native.Nat.{◌-◌, ◌≤◌}
use Rattle.field.specs.Runs.{Written}
use Rattle.field.specs.Sum.{unit}
use Rattle.constraints.proofs.beneath.unit.one_of.Given as goal

abbrev pub invariant-loop-k : goal.invariant-loop-k
invariant-loop-k l = Written (λ i. unit i l.x) l.initial.out l.out l.at l.k
