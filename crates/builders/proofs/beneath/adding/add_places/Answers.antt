-- `builders::beneath::adding::add_places` meets its contract.
-- Assumes nothing.
use mathlib.Core.Path.{ap}
use Prim.Native.Nat.{ℕ}
use native.Mathlib.Omega.{arith}
use Rattle.std.proofs.lemmas.Grind.{common_steps}
use Rattle.constraints.specs.Ldpc.{adds}
use Rattle.builders.proofs.Adding.{added-as, sums_none, sums-more}
use Rattle.builders.proofs.beneath.adding.add_places.Invariants.{term}
use Rattle.builders.proofs.beneath.adding.add_places.Goals as goal

pub loop-j-init : goal.loop-j-init
loop-j-init c = let a = c.args in sums_none (term a.i a.list.now) _

pub loop-j-preserved : goal.loop-j-preserved
loop-j-preserved c =
    let a = c.args in
    sums-more (term a.i a.list.now) c.loop-j.j-index c.loop-j.invariant
    (added-as c.add_one.ensures (λ r q. ap (λ (x : ℕ). adds r q a.i x) (grind (arith, common_steps))))
