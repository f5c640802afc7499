-- `stores::beneath::words::cross_rows` meets its contract: a row at a time. Where `start` is past the last row, there is none.
-- Assumes nothing.
use Rattle.std.specs.Prelude.{◌*◌, min}
use Rattle.field.specs.Runs.{Written}
use Rattle.stores.specs.Bits.{crossed_from}
use Rattle.stores.proofs.beneath.words.cross_rows.Given as goal

abbrev pub invariant-loop-r : goal.invariant-loop-r
invariant-loop-r l = Written (crossed_from l.initial.ws l.n l.a l.b l.start) l.initial.ws l.ws 0 (min l.r l.height * l.n)
