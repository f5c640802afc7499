-- `solver::solver::solve` meets its contract: a call that is not refused can be solved.
-- Assumes nothing.
use Rattle.std.proofs.Common.{sym}
use Rattle.solver.proofs.Admitted.{admits}
use Rattle.solver.proofs.solver.solve.Goals as goal

pub run-requires : goal.run-requires
run-requires c =
    let s = c.args in
    admits s.r s.tables.now s.k s.t s.esis.now s.symbols.now s.rows.now s.values.now s.out.now
    (rw c.any_large.ensures at (sym c.in_ok-may.ensures))
