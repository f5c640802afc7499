use mathlib.Core.Path.{refl, ap}
use Prim.Native.Nat.{ℕ}
use native.Mathlib.Omega.{arith}
use lib.ListN.{get_or}
use Rattle.field.specs.Octet.{plus}
use Rattle.field.proofs.Writing.{written_next}
use Rattle.field.proofs.Zeros.{telling-none, gathered-more}
use Rattle.field.proofs.beneath.runs.add.Goals as goal

pub loop-i-init : goal.loop-i-init
loop-i-init c = telling-none _ _ _

pub loop-i-preserved : goal.loop-i-preserved
loop-i-preserved c =
    gathered-more c.loop-i.seen c.loop-i.invariant refl (omega arith)
    (ap (λ (x : ℕ). plus x (get_or c.args.src.now c.loop-i.i 0)) (written_next c.loop-i.invariant.written))
