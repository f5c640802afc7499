use mathlib.Core.Path.{sym, ap, ◌∙◌}
use Prim.Native.Nat.{ℕ, ◌+◌, ◌%◌}
use native.Mathlib.Nat.{mod-lt}
use native.Mathlib.Omega.{arith}
use Rattle.field.proofs.Writing.{written_none, written-more, written_is}
use Rattle.constraints.proofs.Steps.{one_on, from_start}
use Rattle.constraints.proofs.Lists.{lt-length, lt_at}
use Rattle.constraints.proofs.beneath.walk.lt_places.Goals as goal

pub loop-i-preserved : goal.loop-i-preserved
loop-i-preserved c =
    let a = c.args in
    let h = c.loop-i.invariant in (
      mod-lt (c.loop-i.x + a.a) (omega arith),
      ap (λ (x : ℕ). (x + a.a) % a.w) h.1 ∙ one_on _ _ _ _,
      written-more h.2 (omega arith) (omega arith) (h.1 ∙ sym (lt_at a.w a.a a.d a.b c.loop-i.i (omega arith) (omega arith))),
    )

pub returns : goal.returns
returns c =
    let a = c.args in
    written_is c.loop-i.invariant.2 (omega (arith, lt-length a.w a.a a.d a.b))
