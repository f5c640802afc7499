use Prim.Native.Nat.{◌<◌}
use native.Mathlib.Omega.{arith}
use Rattle.std.proofs.lemmas.List.{get_or-take, length-take-le}
use Rattle.constraints.proofs.Marks.{marked-none, marked_more}
use Rattle.constraints.proofs.beneath.encoding.set_ones.Goals as goal

pub loop-c-init : goal.loop-c-init
loop-c-init c = marked-none c.requires

pub loop-c-preserved : goal.loop-c-preserved
loop-c-preserved c =
    let h : c.loop-c.c-index < c.args.n = omega (arith, length-take-le c.args.n c.args.list.now c.requires.read) in
    marked_more c.requires c.loop-c.invariant h (get_or-take _ _ _ _ h)
