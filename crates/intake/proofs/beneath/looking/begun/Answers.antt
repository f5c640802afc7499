-- `intake::beneath::looking::begun` meets its contract: the tests stand in the order of what a begun state is.
-- Assumes nothing.
use Rattle.std.proofs.Common.{sym, ◌∙◌, arith, leb-true}
use Rattle.intake.proofs.Refusing.{row-broken, begun-told}
use Rattle.intake.proofs.beneath.looking.begun.Goals as goal
use Rattle.intake.proofs.beneath.looking.begun.Goals.{then-l-pivots, else-l-pivots}

pub returns-in_default : goal.returns-in_default
returns-in_default c = λ b. row-broken c.verify.result c.row_in-r.ensures c.verify.ensures c.in_default.is b.numbers.rules

pub returns-then-counts : goal.returns-then-counts
returns-then-counts c = elim c.if-l-pivots.branch [
  | then-l-pivots w ↦
      let counted = rw (sym w.value-is ∙ c.if-counts.true, w.k_in.ensures, w.t_in.ensures, w.mark_in.ensures) at w.counts.ensures in
      begun-told c.args.state.now c.args.pivots.now c.placed.result c.if-state-lt-SIZE.false c.in-Ok.ensures c.row_in-r.ensures counted w.if-l-pivots.true
      c.progress_in.ensures c.placed.ensures
  | else-l-pivots w ↦ absurd (omega (arith, leb-true _ _ (sym w.value-is ∙ c.if-counts.true), w.if-l-pivots.false))
]
