-- `intake::beneath::words::copy` meets its contract: after i turns i numbers stand there.
-- Assumes nothing.
use lib.ListN.{get_or}
use Rattle.field.specs.Runs.{Written}
use Rattle.intake.proofs.beneath.words.copy.Given as goal

abbrev pub invariant-loop-i : goal.invariant-loop-i
invariant-loop-i l = Written (λ k. get_or l.numbers k 0) l.initial.state l.state l.at l.i
