-- `builders::constraint_matrix::generate_constraint_matrix` meets its contract.
-- Assumes nothing.
use mathlib.Core.Path.{sym}
use native.Mathlib.Omega.{arith}
use Rattle.headers.proofs.Rules.{obeying}
use Rattle.builders.proofs.constraint_matrix.generate_constraint_matrix.Goals as goal

pub build-requires : goal.build-requires
build-requires c = (obeying (sym c.in_ok-verify.ensures), omega arith)
