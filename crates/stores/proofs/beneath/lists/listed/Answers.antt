-- `stores::beneath::lists::listed` meets its contract.
-- Assumes nothing.
use Rattle.std.proofs.Common.{ℕ, ◌+◌, ap, subst, ◌∙◌, arith}
use Rattle.field.specs.Runs.{Written}
use Rattle.stores.proofs.Counting.{listed-none, listed_more, listed-is}
use Rattle.stores.proofs.beneath.lists.listed.Goals as goal

pub loop-k-init : goal.loop-k-init
loop-k-init g c = (λ f e. listed-none f _ _, omega arith)

pub loop-k-preserved : goal.loop-k-preserved
loop-k-preserved g c = (
  λ f e.
      let a = c.args in
      let here = e c.loop-k.k c.bit.result c.loop-k-test.true c.bit.ensures in
      let few = c.requires.bits (a.start + c.loop-k.k) c.bit.result c.bit.ensures in
      listed_more f a.start (c.loop-k.invariant.0 f e) (omega (arith, here, few))
      (subst (λ (v : ℕ). Written (λ k. a.start + c.loop-k.k) c.loop-k.out c.push-m.new.out c.loop-k.m v) here c.push-m.ensures.1)
      (c.push-m.ensures.0 ∙ ap (λ (v : ℕ). c.loop-k.m + v) here),
  omega (arith, c.push-m.ensures.0, c.requires.bits _ _ c.bit.ensures),
)

pub returns : goal.returns
returns g c = λ f e. listed-is f c.args.start (c.loop-k.invariant.0 f e) (omega arith)
