-- `headers::payload_id::deserialize` meets its contract.
-- Assumes nothing.
use Rattle.std.proofs.Common.{ap, eq-eqb, ne_eqb}
use Rattle.field.specs.Answer.{given}
use Rattle.headers.proofs.payload_id.deserialize.Goals as goal

pub returns-then-bytes-ne4 : goal.returns-then-bytes-ne4
returns-then-bytes-ne4 c = rw (ne_eqb _ 4 c.if-bytes-ne4.true)

pub returns : goal.returns
returns c = rw (eq-eqb _ 4 c.if-bytes-ne4.false) (ap given c.get.ensures)
