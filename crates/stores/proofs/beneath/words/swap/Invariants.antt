-- `stores::beneath::words::swap` meets its contract: after k turns the first k words of the rows have changed places.
-- Assumes nothing.
use Rattle.stores.specs.Rows.{Exchanged}
use Rattle.stores.proofs.beneath.words.swap.Given as goal

abbrev pub invariant-loop-k : goal.invariant-loop-k
invariant-loop-k l = Exchanged l.initial.ws l.ws l.i l.j l.k
