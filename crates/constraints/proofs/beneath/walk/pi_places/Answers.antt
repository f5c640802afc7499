use mathlib.Core.Path.{refl}
use Prim.Native.Nat.{◌+◌}
use native.Mathlib.Nat.{mod-lt}
use native.Mathlib.Omega.{arith}
use Rattle.field.proofs.Writing.{written_none, written-more, written_is}
use Rattle.constraints.proofs.Lists.{start, start-on, pi-length, pi-is}
use Rattle.constraints.proofs.beneath.walk.pi_places.Goals as goal

pub loop-i-init : goal.loop-i-init
unfolding start
loop-i-init c = (omega arith, refl, written_none _ _ _)

pub loop-i-preserved : goal.loop-i-preserved
loop-i-preserved c =
    let h = c.loop-i.invariant in (
      mod-lt (c.land-y.result + c.args.a) (omega arith),
      start-on _ _ _ _ _ _ _ h.1 c.land-y.ensures.0,
      written-more h.2 refl (omega arith) (pi-is _ _ _ _ _ _ _ _ _ (omega arith) h.1 c.land-y.ensures.0),
    )

pub returns : goal.returns
returns c =
    let a = c.args in
    written_is c.loop-i.invariant.2 (omega (arith, pi-length a.p a.p1 a.a a.w a.d a.b))
