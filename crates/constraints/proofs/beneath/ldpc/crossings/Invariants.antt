-- `constraints::beneath::ldpc::crossings` meets its contract: x is the first row of column c, and a its step.
-- Assumes nothing.
use mathlib.Core.Path.{◌≡◌}
use Prim.Native.Nat.{◌+◌, ◌-◌, ◌/◌, ◌%◌, ◌≤◌, ◌<◌}
use Rattle.field.specs.Runs.{Written}
use Rattle.constraints.specs.Ldpc.{crossed}
use Rattle.constraints.proofs.beneath.ldpc.crossings.Given as goal

abbrev pub invariant-loop-c : goal.invariant-loop-c
invariant-loop-c l = (l.x < l.s) × (l.x ≡ l.c % l.s) × (l.a ≡ 1 + l.c / l.s) × Written (crossed l.s l.r) l.initial.out l.out l.at l.c
