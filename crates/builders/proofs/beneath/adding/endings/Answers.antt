-- `builders::beneath::adding::endings` meets its contract.
-- Assumes nothing.
use mathlib.Core.Path.{refl}
use Rattle.builders.proofs.Adding.{added_then, sums_none, sums-more}
use Rattle.builders.proofs.beneath.adding.endings.Invariants.{term}
use Rattle.builders.proofs.beneath.adding.endings.Goals as goal

pub loop-k-init : goal.loop-k-init
loop-k-init c = let a = c.args in sums_none (term a.w a.p) _

pub loop-k-preserved : goal.loop-k-preserved
loop-k-preserved c =
    let a = c.args in
    sums-more (term a.w a.p) c.loop-k.k c.loop-k.invariant (added_then c.add_one.ensures c.add_one-in-loop-k.ensures (λ r q. refl))
