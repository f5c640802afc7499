use mathlib.Core.Path.{ap, ap₂, ◌∙◌}
use native.Mathlib.Omega.{arith}
use Rattle.field.specs.Octet.{plus, doubled}
use Rattle.constraints.proofs.Grid.{inside, column-more, column-right}
use Rattle.constraints.proofs.beneath.hdpc.next_column.Goals as goal

pub loop-i-preserved : goal.loop-i-preserved
loop-i-preserved c =
    let m = inside c.requires c.loop-i.i c.loop-i-test.true in
    let twice = c.double.ensures ∙ ap doubled (column-right c.loop-i.invariant (omega arith) c.loop-i.i) in
    column-more c.loop-i.invariant (omega arith) (omega arith)
    (ap₂ plus (ap₂ plus twice c.unit.ensures) c.unit-in-loop-i.ensures)
