-- `elimination::beneath::taking::hold` meets its contract: scaled and copied, the equation stands where it stood after the held ones.
-- Assumes nothing.
use native.Mathlib.Omega.{arith}
use borrow.Author.Rules.{rules}
use Rattle.linear.specs.Bytes.{Bytes}
use Rattle.elimination.proofs.Joining.{lodged}
use Rattle.elimination.proofs.beneath.taking.hold.Goals as goal

pub returns-clause-lodged : goal.returns-clause-lodged
returns-clause-lodged c =
    let row : Bytes c.args.row.now = search rules in
    let made = c.make_one.ensures in
    lodged c.requires.0 c.requires.1 c.requires.2 row made.row_times made.symbol_times c.copy_row.ensures c.copy_row-2.ensures
    (λ x. omega (arith, c.type_inv.rows x)) (λ x. omega (arith, c.type_inv.values x))
