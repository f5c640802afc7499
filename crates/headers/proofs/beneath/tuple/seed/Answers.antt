-- `headers::beneath::tuple::seed` meets its contract.
-- Assumes nothing.
use Rattle.std.proofs.Common.{arith}
use Rattle.headers.specs.Tuples.{seed}
use Rattle.headers.proofs.Tuples.{product}
use Rattle.headers.proofs.beneath.tuple.seed.Goals as goal

pub returns : goal.returns
unfolding seed
returns c = rw c.factor-a.ensures
