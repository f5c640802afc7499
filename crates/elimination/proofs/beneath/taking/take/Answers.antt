-- `elimination::beneath::taking::take` meets its contract: the equation is held, or the held ones say all of it, or they deny it.
-- Assumes nothing.
use mathlib.Core.Path.{sym, ◌∙◌}
use native.Mathlib.Omega.{arith}
use Rattle.linear.proofs.Keeping.{holds_kept}
use Rattle.elimination.proofs.Joining.{still, take-followed, take-denied}
use Rattle.elimination.proofs.beneath.taking.take.Goals as goal

pub returns-then-c-l : goal.returns-then-c-l
returns-then-c-l c =
    let h = c.if-c-l.true in
    let v = c.seek-c.ensures.vacant h in
    let f = c.seek-c.ensures.first v in
    let w = c.sift-zero.ensures.swept in (
      v,
      (c.seek-c.result, h, c.hold.ensures.put_in),
      λ q. record {
        stands = c.hold.ensures.lodged.stands (record { gone = (w q).gone; low = λ i l. f.zeros i l (omega arith); other = f.other h }) q;
        says = λ S u. c.hold.ensures.lodged.says (f.other h) S (holds_kept u (w q).keeps);
      },
    )

pub returns-then-zero : goal.returns-then-zero
returns-then-zero c =
    let z = sym c.sift-zero.ensures.value ∙ c.if-zero.true in
    (still _ _ _, λ q. take-followed c.requires.lent.0 q (c.sift-zero.ensures.swept q) c.seek-c.ensures (omega (arith, c.if-c-l.false)) z)

pub returns : goal.returns
returns c =
    let z = sym c.sift-zero.ensures.value ∙ c.if-zero.false in
    (still _ _ _, λ q. take-denied c.requires.lent.0 q (c.sift-zero.ensures.swept q) c.seek-c.ensures (omega (arith, c.if-c-l.false)) z)
