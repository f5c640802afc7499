use mathlib.Core.Path.{sym, ◌∙◌}
use Prim.Native.Nat.{◌+◌}
use native.Mathlib.Nat.{mod-lt}
use native.Mathlib.Omega.{arith}
use Rattle.constraints.proofs.Steps.{land-stays, land-turn, skips-turn}
use Rattle.constraints.proofs.beneath.walk.land.Goals as goal

pub loop-x-smaller : goal.loop-x-smaller
loop-x-smaller c =
    let near = skips-turn {p = c.args.p} {a = c.args.a} c.requires.0 (omega arith) (omega arith) (omega arith) (omega arith) c.loop-x.x in
    omega (arith, near (omega arith) (omega arith))

pub loop-x-preserved : goal.loop-x-preserved
loop-x-preserved c =
    let same = land-turn {p = c.args.p} c.requires.0 (omega arith) (omega arith) (omega arith) (omega arith) c.loop-x.x (omega arith) (omega arith) in
    (mod-lt (c.loop-x.x + c.args.a) (omega arith), same ∙ c.loop-x.invariant.1)

pub returns : goal.returns
returns c = (sym (land-stays _ _ _ _ _ (omega arith)) ∙ c.loop-x.invariant.1, omega arith)
