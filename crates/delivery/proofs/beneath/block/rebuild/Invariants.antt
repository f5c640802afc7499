-- `delivery::beneath::block::rebuild` meets its contract: after i turns the first i symbols are there.
-- Assumes nothing.
use Prim.Native.Nat.{◌*◌}
use Rattle.field.specs.Runs.{Written}
use Rattle.delivery.specs.Received.{source_octet}
use Rattle.delivery.proofs.beneath.block.rebuild.Given as goal

abbrev pub invariant-loop-i : goal.invariant-loop-i
invariant-loop-i l = Written (source_octet l.tables l.r l.t l.intermediates) l.initial.out l.out 0 (l.i * l.t)
