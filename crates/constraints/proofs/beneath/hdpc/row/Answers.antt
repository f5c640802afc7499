use mathlib.Core.Path.{◌≡◌, ◌∙◌}
use Prim.Native.Nat.{◌+◌, ◌-◌, ◌<◌}
use native.Mathlib.Omega.{arith}
use Rattle.field.proofs.Parts.{written_then}
use Rattle.field.proofs.Writing.{written_is}
use Rattle.constraints.proofs.Grid.{row-none, row_more, row-all}
use Rattle.constraints.proofs.Product.{hdpc-identity, turned-last, turned-next, turned-is}
use Rattle.constraints.proofs.beneath.hdpc.row.Goals as goal

pub loop-c-init : goal.loop-c-init
loop-c-init c = (turned-last _ _ _ _, row-none _ _ _ _)

pub loop-c-preserved : goal.loop-c-preserved
loop-c-preserved c =
    let b : c.loop-c.c - 1 < c.args.l - c.args.h = omega arith in
    let e : c.loop-c.c ≡ c.loop-c.c - 1 + 1 = omega arith in
    let x = turned-next _ _ _ _ _ e b c.loop-c.invariant.0 c.double.ensures c.mt.ensures in
    (x, row_more c.loop-c.invariant.1 e b (omega arith) (x ∙ turned-is _ _ _ _ _ b))

pub returns : goal.returns
returns c =
    written_is
    (written_then (row-all c.loop-c.invariant.1 (omega arith)) c.one_of.ensures (λ k h. hdpc-identity _ _ _ _ k))
    (omega arith)
