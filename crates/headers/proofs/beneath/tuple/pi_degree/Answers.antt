-- `headers::beneath::tuple::pi_degree` meets its contract.
-- Assumes nothing.
use Rattle.std.proofs.Common.{ℕ, ◌+◌, ap, arith, le-ltb, lt-ltb}
use Rattle.headers.specs.Tuples.{pi_degree}
use Rattle.headers.proofs.beneath.tuple.pi_degree.Goals as goal

pub returns-then-d-lt4 : goal.returns-then-d-lt4
unfolding pi_degree
returns-then-d-lt4 c = rw (lt-ltb c.args.d 4 (omega arith)) (ap (λ (n : ℕ). 2 + n) c.rand.ensures.0)

pub returns-else-d-lt4 : goal.returns-else-d-lt4
unfolding pi_degree
returns-else-d-lt4 c = rw (le-ltb c.args.d 4 (omega arith))
