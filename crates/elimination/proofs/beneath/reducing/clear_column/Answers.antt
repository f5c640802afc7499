use Rattle.elimination.proofs.Units.{cleared-none, cleared_more}
use Rattle.elimination.proofs.beneath.reducing.clear_column.Goals as goal

pub loop-j-init : goal.loop-j-init
loop-j-init c = cleared-none _ _

pub loop-j-preserved : goal.loop-j-preserved
loop-j-preserved c = cleared_more c.loop-j-test.true c.requires.1 c.loop-j.invariant c.clear_entry.ensures.written c.clear_entry.ensures.row_added
