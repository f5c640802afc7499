-- `elimination::beneath::reducing::clear_entry` meets its contract: an octet that is 0 asks for nothing.
-- Assumes nothing.
use Rattle.elimination.proofs.Units.{added_none}
use Rattle.elimination.proofs.beneath.reducing.clear_entry.Goals as goal

pub returns-then-f-eq0-clause-row_added : goal.returns-then-f-eq0-clause-row_added
returns-then-f-eq0-clause-row_added c = added_none _ _ _ _ _ c.if-f-eq0.true
