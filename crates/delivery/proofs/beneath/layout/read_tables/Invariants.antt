-- `delivery::beneath::layout::read_tables` meets its contract: after i turns the first i numbers are there.
-- Assumes nothing.
use Rattle.field.specs.Runs.{Written}
use Rattle.delivery.specs.Layout.{entry_at}
use Rattle.delivery.proofs.beneath.layout.read_tables.Given as goal

abbrev pub invariant-loop-i : goal.invariant-loop-i
invariant-loop-i l = Written (entry_at l.bytes) l.initial.tables l.tables 0 l.i
