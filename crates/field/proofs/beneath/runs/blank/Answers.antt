use native.Mathlib.Omega.{arith}
use Rattle.field.proofs.Parts.{blank_part}
use Rattle.field.proofs.beneath.runs.blank.Goals as goal

pub loop-x-preserved : goal.loop-x-preserved
loop-x-preserved c =
    (omega arith, omega arith, blank_part c.args.src.now c.loop-x.x 64 (omega arith) c.loop-x.invariant.2 c.most.ensures (omega arith))
