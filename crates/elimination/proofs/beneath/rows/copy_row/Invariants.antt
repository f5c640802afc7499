-- `elimination::beneath::rows::copy_row` meets its contract: after c turns the first c octets of the row are there.
-- Assumes nothing.
use Prim.Native.Nat.{ℕ, ◌*◌}
use Rattle.field.specs.Runs.{Written}
use Rattle.linear.specs.Bytes.{cell}
use Rattle.elimination.proofs.beneath.rows.copy_row.Given as goal

abbrev pub invariant-loop-c : goal.invariant-loop-c
invariant-loop-c l = Written (λ (x : ℕ). cell l.w l.source l.k x) l.initial.store l.store (l.i * l.w) l.c
