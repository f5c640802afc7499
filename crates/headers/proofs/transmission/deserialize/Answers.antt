-- `headers::transmission::deserialize` meets its contract.
-- Assumes nothing.
use Rattle.std.proofs.Common.{ap, eq-eqb, ne_eqb}
use Rattle.field.specs.Answer.{given}
use Rattle.headers.proofs.transmission.deserialize.Goals as goal

pub returns-then-bytes-ne12 : goal.returns-then-bytes-ne12
returns-then-bytes-ne12 c = rw (ne_eqb _ 12 c.if-bytes-ne12.true)

pub returns : goal.returns
returns c = rw (eq-eqb _ 12 c.if-bytes-ne12.false) (ap given c.get.ensures)
