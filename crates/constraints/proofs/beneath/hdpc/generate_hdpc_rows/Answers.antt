use mathlib.Core.Path.{sym}
use native.Mathlib.Omega.{arith}
use Rattle.constraints.proofs.Grid.{filled_more, filled-all}
use Rattle.constraints.proofs.Product.{hdpc-unit, hdpc-last, next-is}
use Rattle.constraints.proofs.beneath.hdpc.generate_hdpc_rows.Goals as goal

pub loop-c-preserved : goal.loop-c-preserved
loop-c-preserved c = (
  omega arith,
  filled_more c.loop-c.invariant.1 (omega arith) (omega arith) c.unit_column.ensures (λ r h. sym (hdpc-unit _ _ _ _ _ (omega arith))),
)

pub loop-c-2-init : goal.loop-c-2-init
loop-c-2-init c =
    filled_more c.loop-c.invariant.1 (omega arith) (omega arith) c.alpha_column.ensures (λ r h. sym (hdpc-last _ _ _ _ _ (omega arith)))

pub loop-c-2-preserved : goal.loop-c-2-preserved
loop-c-2-preserved c =
    filled_more c.loop-c-2.invariant (omega arith) (omega arith) c.next_column.ensures
    (λ r h.
    next-is _ _ _ _ c.loop-c-2.invariant (omega arith) (omega arith) (omega arith) (omega arith) h
    c.first_one-a.ensures.0
    c.second_one-b.ensures)
