-- `delivery::beneath::receiver::attempt` meets its contract.
-- Assumes nothing.
use native.Mathlib.Omega.{arith}
use Rattle.delivery.proofs.Screening.{sound}
use Rattle.delivery.proofs.Settling.{came}
use Rattle.delivery.proofs.beneath.receiver.attempt.Goals as goal

pub hear_all-passed-requires-clause-in_bounds : goal.hear_all-passed-requires-clause-in_bounds
hear_all-passed-requires-clause-in_bounds c =
    let u = c.in_ok-ready.ensures.opens in
    ((sound c.args.bytes.now u.0).whole, u.1, omega (arith, c.in_ok-ready.ensures.opened_small.0))

pub hear_all-passed-requires-clause-opened : goal.hear_all-passed-requires-clause-opened
hear_all-passed-requires-clause-opened c = c.in_ok-ready.ensures.opens.3

pub returns-clause-comes : goal.returns-clause-comes
returns-clause-comes c =
    let u = c.in_ok-ready.ensures.opens in
    came c.args.bytes.now c.args.out.now _ c.conclude.result c.hear_all-passed.new.memory u.0 u.2 c.hear_all-passed.ensures.value
    c.hear_all-passed.ensures.heard c.conclude.ensures.concludes_held
