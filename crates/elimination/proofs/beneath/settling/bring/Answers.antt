use mathlib.Core.Path.{◌≡◌, refl}
use Prim.Native.Nat.{◌+◌, ◌*◌, ◌-◌}
use native.Mathlib.Omega.{arith}
use Rattle.linear.proofs.Back.{brought-begin, brought-from}
use Rattle.linear.proofs.Rows.{only-refl, only_row, only-trans}
use Rattle.elimination.proofs.Settling.{brought-on, brought-at}
use Rattle.elimination.proofs.beneath.settling.bring.Goals as goal

pub loop-x-init : goal.loop-x-init
loop-x-init c =
    let f = c.first_other-x.ensures in
    let u = c.copy_row.ensures in
    (omega (arith, f.least), f.most, only-refl, brought-on _ _ _ _ refl f (brought-begin _ _ _ (λ b h. u.part b h)))

pub loop-x-preserved : goal.loop-x-preserved
loop-x-preserved c =
    let v = c.loop-x.invariant in
    let x = c.loop-x.x in
    let f = c.first_other-x-in-loop-x.ensures in
    let u = c.add.ensures in
    let e : x + 1 ≡ c.args.q * c.args.l + (x - c.args.q * c.args.l + 1) = omega (arith, v.0) in (
      omega (arith, v.0, f.least),
      f.most,
      only-trans v.2 (only_row c.args.p c.args.l c.requires.2 u),
      brought-on _ _ _ _ e f (brought-at _ _ _ v.0 refl u v.3),
    )

pub returns-clause-only_below : goal.returns-clause-only_below
returns-clause-only_below c =
    let v = c.loop-x.invariant in
    let u = c.copy_row.ensures in
    only-trans (only_row c.args.p c.args.l c.requires.2 u) v.2

pub returns-clause-brought : goal.returns-clause-brought
returns-clause-brought c =
    let v = c.loop-x.invariant in
    let u = c.copy_row.ensures in
    let e : c.loop-x.x - c.args.q * c.args.l ≡ c.args.l = omega (arith, v.1, c.loop-x-test.false) in
    brought-from _ _ _ u (rw e at v.3)
