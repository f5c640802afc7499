use mathlib.Core.Path.{◌∙◌}
use native.Mathlib.Omega.{arith}
use borrow.Author.Rules.{rules}
use borrow.Author.Tests.{le-leb}
use Rattle.linear.specs.Bytes.{Bytes}
use Rattle.elimination.proofs.Joining.{swept-begin, swept-past, swept-row}
use Rattle.elimination.proofs.beneath.taking.sift.Goals as goal

pub loop-k-init : goal.loop-k-init
loop-k-init c =
    let row : Bytes c.args.row.now = search rules in (
      c.next_pivot-k.ensures.most,
      c.requires.1,
      λ _. c.requires.2,
      λ h. swept-past c.requires.0 c.next_pivot-k.ensures (swept-begin c.requires.0 _ _ row (λ x. omega (arith, c.type_inv.symbol x))),
    )

pub loop-k-preserved : goal.loop-k-preserved
loop-k-preserved c =
    let next = c.next_pivot-next.ensures in
    let off = rw c.from.ensures at c.take_off-f.ensures in
    let (s, l, row) = off.row_added in
    let symbol = c.add_symbol-zero.ensures in
    let v = c.loop-k.invariant in (
      next.most,
      record { row = row.size ∙ v.1.row; symbol = symbol.onto.size ∙ v.1.symbol },
      λ e. symbol.value (le-leb c.args.r c.next_pivot-next.result e),
      λ q. swept-past c.requires.0 next (swept-row c.requires.0 s q c.loop-k-test.true off.value l row symbol.onto (v.3 q)),
    )
