-- `constraints::beneath::walk::pi_places` meets its contract: after i turns the first i places are written, and x is where the walk goes on.
-- Assumes nothing.
use mathlib.Core.Path.{◌≡◌}
use Prim.Native.Nat.{◌-◌, ◌<◌, ◌≤◌}
use lib.ListN.{get_or}
use Rattle.field.specs.Runs.{Written}
use Rattle.constraints.specs.Walk.{pi_places}
use Rattle.constraints.proofs.Lists.{start}
use Rattle.constraints.proofs.beneath.walk.pi_places.Given as goal

abbrev pub invariant-loop-i : goal.invariant-loop-i
invariant-loop-i l =
    let all = pi_places l.w l.p l.p1 l.a l.d l.b in
    (l.x < l.p1) × (l.x ≡ start l.p l.p1 l.a l.i l.b) × Written (λ k. get_or all k 0) l.initial.list l.list l.from l.i
