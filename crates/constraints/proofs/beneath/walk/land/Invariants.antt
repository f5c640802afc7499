-- `constraints::beneath::walk::land` meets its contract: it goes on to the place where the whole walk lands, one step nearer with each turn.
-- Assumes nothing.
use mathlib.Core.Path.{◌≡◌}
use Prim.Native.Nat.{◌<◌}
use Rattle.constraints.specs.Walk.{land}
use Rattle.constraints.proofs.Steps.{skips}
use Rattle.constraints.proofs.beneath.walk.land.Given as goal

abbrev pub invariant-loop-x : goal.invariant-loop-x
invariant-loop-x l = (l.x < l.p1) × (land l.p l.p1 l.a l.p1 l.x ≡ land l.p l.p1 l.a l.p1 l.b)

abbrev pub decreases-loop-x : goal.decreases-loop-x
decreases-loop-x l = skips l.p l.p1 l.a l.p1 l.x
