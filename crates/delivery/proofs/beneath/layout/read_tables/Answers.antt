use native.Mathlib.Omega.{arith}
use Rattle.field.proofs.Writing.{written_none, written-more, written_is}
use Rattle.delivery.proofs.beneath.layout.read_tables.Goals as goal

pub loop-i-init : goal.loop-i-init
loop-i-init c = written_none _ _ _

pub loop-i-preserved : goal.loop-i-preserved
loop-i-preserved c = written-more c.loop-i.invariant (omega arith) (omega arith) c.word.ensures
