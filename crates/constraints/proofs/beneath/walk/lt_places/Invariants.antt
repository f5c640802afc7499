-- `constraints::beneath::walk::lt_places` meets its contract: after i turns the first i places are written, and x is the next.
-- Assumes nothing.
use mathlib.Core.Path.{◌≡◌}
use Prim.Native.Nat.{◌+◌, ◌*◌, ◌%◌, ◌<◌}
use lib.ListN.{get_or}
use Rattle.field.specs.Runs.{Written}
use Rattle.constraints.specs.Walk.{lt_places}
use Rattle.constraints.proofs.beneath.walk.lt_places.Given as goal

abbrev pub invariant-loop-i : goal.invariant-loop-i
invariant-loop-i l = (l.x < l.w) × (l.x ≡ (l.b + l.i * l.a) % l.w) × Written (λ k. get_or (lt_places l.w l.a l.d l.b) k 0) l.initial.list l.list 0 l.i
