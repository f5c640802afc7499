-- `stores::beneath::words::pack` meets its contract: a row at a time, each read before a later one is written.
-- Assumes nothing.
use Prim.Native.Nat.{◌*◌}
use Rattle.field.specs.Runs.{Written}
use Rattle.stores.specs.Rows.{packed_to}
use Rattle.stores.proofs.beneath.words.pack.Given as goal

abbrev pub invariant-loop-r : goal.invariant-loop-r
invariant-loop-r l = Written (packed_to l.initial.ws l.n l.old) l.initial.ws l.ws 0 (l.r * l.n)
