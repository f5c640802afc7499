-- `intake::intake::may_begin` meets its contract: a row that was not refused keeps its rules.
-- Assumes nothing.
use Rattle.std.proofs.Common.{sym}
use Rattle.headers.proofs.Rules.{obeying}
use Rattle.intake.proofs.intake.may_begin.Goals as goal

pub room_to_begin-requires : goal.room_to_begin-requires
room_to_begin-requires c = obeying (sym c.in_ok-verify.ensures)
