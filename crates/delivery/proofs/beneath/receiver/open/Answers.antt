-- `delivery::beneath::receiver::open` meets its contract.
-- Assumes nothing.
use Rattle.delivery.proofs.Screening.{all-passed}
use Rattle.delivery.proofs.beneath.receiver.open.Goals as goal

pub start-requires-clause-passes : goal.start-requires-clause-passes
start-requires-clause-passes c = all-passed c.screen.result c.screen.ensures c.in_ok-screen.was
