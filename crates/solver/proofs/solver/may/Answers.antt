-- `solver::solver::may` meets its contract: a row that was not refused keeps its rules.
-- Assumes nothing.
use Rattle.std.proofs.Common.{sym}
use Rattle.headers.proofs.Rules.{obeying}
use Rattle.solver.proofs.solver.may.Goals as goal

pub room-requires : goal.room-requires
room-requires c = (obeying (sym c.in_ok-verify.ensures), c.if-k-r.false, c.if-n-gt65535.false)
