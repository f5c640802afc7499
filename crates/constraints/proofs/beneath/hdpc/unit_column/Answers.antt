use native.Mathlib.Omega.{arith}
use Rattle.constraints.proofs.Grid.{inside, column-more}
use Rattle.constraints.proofs.beneath.hdpc.unit_column.Goals as goal

pub loop-i-preserved : goal.loop-i-preserved
loop-i-preserved c = column-more c.loop-i.invariant (omega arith) (inside c.requires c.loop-i.i c.loop-i-test.true) c.unit.ensures
