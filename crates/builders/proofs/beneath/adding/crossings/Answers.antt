-- `builders::beneath::adding::crossings` meets its contract.
-- Assumes nothing.
use mathlib.Core.Path.{refl}
use Rattle.constraints.specs.Ldpc.{one, two, three, turn}
use Rattle.builders.proofs.Adding.{added_then, sums_none, sums-more}
use Rattle.builders.proofs.beneath.adding.crossings.Goals as goal

pub loop-k-init : goal.loop-k-init
loop-k-init c = sums_none (turn c.args.s) _

pub loop-k-preserved : goal.loop-k-preserved
unfolding one two three
loop-k-preserved c =
    sums-more (turn c.args.s) c.loop-k.k c.loop-k.invariant
    (added_then (added_then c.add_one.ensures c.add_one-in-loop-k.ensures (λ r q. refl)) c.add_one-in-loop-k-2.ensures (λ r q. refl))
