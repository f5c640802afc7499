use mathlib.Core.Path.{◌≡◌}
use Prim.Native.Nat.{◌+◌, ◌-◌}
use native.Mathlib.Omega.{arith}
use Rattle.elimination.proofs.Units.{reduced-none, reduced-more, reduced-all}
use Rattle.elimination.proofs.beneath.reducing.reduce.Goals as goal

pub loop-q-init : goal.loop-q-init
loop-q-init c = reduced-none _ _ _

pub loop-q-preserved : goal.loop-q-preserved
loop-q-preserved c =
    let e : c.loop-q.q ≡ c.loop-q.q - 1 + 1 = omega arith in
    reduced-more e (omega arith) c.loop-q.invariant (rw c.from.ensures at c.clear_column.ensures)

pub returns : goal.returns
returns c = reduced-all (omega arith) c.loop-q.invariant
