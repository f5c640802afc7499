use mathlib.Core.Path.{◌≡◌}
use Prim.Native.Nat.{◌+◌, ◌-◌}
use native.Mathlib.Omega.{arith}
use Rattle.linear.proofs.Back.{met-more}
use Rattle.linear.proofs.Rows.{only-trans}
use Rattle.elimination.proofs.Settling.{settles}
use Rattle.elimination.proofs.beneath.settling.settle.Goals as goal

pub loop-q-preserved : goal.loop-q-preserved
loop-q-preserved c =
    let v = c.loop-q.invariant in
    let e : c.loop-q.q ≡ c.loop-q.q - 1 + 1 = omega arith in
    let brought = rw c.from.ensures at c.bring.ensures.brought in (
      only-trans v.0 c.bring.ensures.only_below,
      λ x. omega (arith, c.type_inv.out x),
      λ s. met-more _ _ s (omega arith) (λ x. omega (arith, c.type_inv.out x)) brought (rw e at (v.2 s)),
    )

pub returns : goal.returns
returns c =
    let v = c.loop-q.invariant in
    let e : c.loop-q.q ≡ 0 = omega arith in
    settles _ _ _ _ _ c.if-r-l.false v.1 c.requires.1 v.0 (λ s. rw e at (v.2 s))
