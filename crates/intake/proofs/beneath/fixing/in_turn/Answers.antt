-- `intake::beneath::fixing::in_turn` meets its contract: the padding rows come first.
-- Assumes nothing.
use Rattle.std.proofs.Common.{sym}
use Rattle.intake.proofs.Fixed.{turn-first, turn-then}
use Rattle.intake.proofs.beneath.fixing.in_turn.Goals as goal

pub returns-then-i-padding : goal.returns-then-i-padding
returns-then-i-padding c = sym (turn-first _ _ _ c.if-i-padding.true)

pub returns : goal.returns
returns c = sym (turn-then _ _ _ c.if-i-padding.false)
