-- `constraints::beneath::hdpc::mt` meets its contract: the powers of alpha in the last column, and else two ones in two rows.
-- Assumes nothing.
use mathlib.Core.Path.{sym, ap, ap₂, ◌∙◌}
use native.Mathlib.Omega.{arith}
use Rattle.field.specs.Octet.{plus}
use Rattle.field.specs.Sum.{unit}
use Rattle.constraints.proofs.Product.{mt-ones, mt-last}
use Rattle.constraints.proofs.beneath.hdpc.mt.Goals as goal

pub returns-then-c-n : goal.returns-then-c-n
returns-then-c-n c = c.power.ensures ∙ sym (mt-last _ _ _ _ _ (sym c.if-c-n.true))

pub returns : goal.returns
returns c =
    let a = c.args in
    ap₂ plus (c.unit.ensures ∙ ap (unit a.i) c.first_one-a.ensures.0)
    (c.unit-2.ensures ∙ ap (unit a.i) c.second_one.ensures)
    ∙ sym (mt-ones a.tables.now a.n a.h a.i a.c c.requires.1 (omega (arith, c.if-c-n.false)))
