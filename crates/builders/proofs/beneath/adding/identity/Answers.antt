-- `builders::beneath::adding::identity` meets its contract.
-- Assumes nothing.
use Rattle.builders.proofs.Adding.{sums_none, sums-more}
use Rattle.builders.proofs.beneath.adding.identity.Invariants.{term}
use Rattle.builders.proofs.beneath.adding.identity.Goals as goal

pub loop-k-init : goal.loop-k-init
loop-k-init c = sums_none (term c.args.b) _

pub loop-k-preserved : goal.loop-k-preserved
loop-k-preserved c = sums-more (term c.args.b) c.loop-k.k c.loop-k.invariant c.add_one.ensures
