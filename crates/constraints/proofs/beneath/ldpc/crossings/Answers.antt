use mathlib.Core.Path.{refl, sym, ap, ap₂, ◌∙◌}
use Prim.Native.Nat.{ℕ, ◌+◌, ◌/◌, ◌%◌}
use native.Mathlib.Nat.{mod-lt, mod-add-mod, zero-mod, zero-div}
use native.Mathlib.Omega.{arith}
use Rattle.field.proofs.Writing.{written_none, written-more}
use Rattle.constraints.proofs.Closed.{step-high, next-div, crossed-is}
use Rattle.constraints.proofs.beneath.ldpc.crossings.Goals as goal

pub step-y-requires : goal.step-y-requires
step-y-requires c = omega (arith, step-high c.requires.0 c.loop-c.c (omega arith))

pub step-z-requires : goal.step-z-requires
step-z-requires c =
    let high = step-high c.requires.0 c.loop-c.c (omega arith) in
    omega (arith, high, mod-lt (c.loop-c.x + c.loop-c.a) {m = c.args.s} (omega arith), c.step-y.ensures)

pub loop-c-preserved : goal.loop-c-preserved
loop-c-preserved c =
    let s = c.args.s in
    let i = c.loop-c.invariant in (
      omega (arith, mod-lt (c.loop-c.x + 1) {m = s} (omega arith), c.step-x.ensures),
      c.step-x.ensures ∙ ap (λ (n : ℕ). (n + 1) % s) i.1 ∙ mod-add-mod c.loop-c.c s 1,
      c.next_step-a.ensures ∙ ap₂ (λ (m n : ℕ). m + (n + 1) / s) i.2 i.1 ∙ omega (arith, next-div c.loop-c.c s (omega arith)),
      written-more i.3 refl (omega arith)
          (crossed-is s c.args.r c.loop-c.c i.1 i.2 c.step-y.ensures c.step-z.ensures
          c.unit.ensures c.unit-in-loop-c.ensures c.unit-in-loop-c-2.ensures),
    )
