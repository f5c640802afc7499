-- `delivery::beneath::receiver::receive` meets its contract.
-- Assumes nothing.
use mathlib.Core.Path.{refl}
use Rattle.delivery.proofs.Lists.{no_more, within}
use Rattle.delivery.proofs.beneath.receiver.receive.Goals as goal

pub attempt-requires-clause-values_in_bounds : goal.attempt-requires-clause-values_in_bounds
attempt-requires-clause-values_in_bounds c = (no_more refl, within refl c.requires)
