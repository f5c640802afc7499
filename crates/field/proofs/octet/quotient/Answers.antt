use mathlib.Core.Path.{◌≡◌, sym, ap, ap₂, ◌∙◌}
use Prim.Native.Nat.{ℕ, ◌/◌}
use native.Mathlib.Omega.{arith}
use Rattle.field.specs.Octet.{times}
use Rattle.field.proofs.Powers.{nth, nth-half, nth-none, over-nth}
use Rattle.field.proofs.octet.quotient.Goals as goal

pub loop-exponent-init : goal.loop-exponent-init
loop-exponent-init c = (c.ranges.a.fits, sym (over-nth c.args.a c.args.by))

pub loop-exponent-preserved : goal.loop-exponent-preserved
loop-exponent-preserved c =
    let l = c.loop-exponent in (
      omega arith,
      ap₂ (λ (x y : ℕ). times x (nth (l.exponent / 2) y)) c.mul_if_odd-product.ensures c.mul-square.ensures
          ∙ nth-half l.exponent l.product l.square ∙ l.invariant.1,
    )

pub returns : goal.returns
returns c =
    let l = c.loop-exponent in
    let none : l.exponent ≡ 0 = omega arith in
    sym (ap (λ (n : ℕ). times l.product (nth n l.square)) none ∙ nth-none l.product l.square l.invariant.0) ∙ l.invariant.1
