-- `stores::beneath::words::add` meets its contract: after k turns the first k words of the row are sums.
-- Assumes nothing.
use Rattle.field.specs.Runs.{Written, added, part}
use Rattle.stores.proofs.beneath.words.add.Given as goal

abbrev pub invariant-loop-k : goal.invariant-loop-k
invariant-loop-k l = Written (added l.initial.ws l.to (part l.initial.ws l.from l.n)) l.initial.ws l.ws l.to l.k
