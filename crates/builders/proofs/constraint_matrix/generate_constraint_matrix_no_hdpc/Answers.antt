-- `builders::constraint_matrix::generate_constraint_matrix_no_hdpc` meets its contract.
-- Assumes nothing.
use mathlib.Core.Path.{sym}
use native.Mathlib.Omega.{arith}
use Rattle.headers.proofs.Rules.{obeying}
use Rattle.builders.proofs.constraint_matrix.generate_constraint_matrix_no_hdpc.Goals as goal

pub overflow_add-r : goal.overflow_add-r
overflow_add-r c = let o = obeying {r = c.args.r} (sym c.in_ok-verify.ensures) in omega (arith, o.l-high)

pub build-requires : goal.build-requires
build-requires c = (obeying (sym c.in_ok-verify.ensures), omega arith)
