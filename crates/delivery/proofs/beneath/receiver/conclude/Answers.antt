-- `delivery::beneath::receiver::conclude` meets its contract.
-- Assumes nothing.
use native.Mathlib.Omega.{arith}
use lib.ListN.{length}
use Rattle.delivery.proofs.Settling.{answered-restorable, concluded, question-held}
use Rattle.delivery.proofs.beneath.receiver.conclude.Goals as goal

pub restore-requires : goal.restore-requires
restore-requires c = answered-restorable (length c.args.out.now) _ c.in_ok-verdict.ensures c.question.auto.out c.requires.1

pub returns-clause-concludes_held : goal.returns-clause-concludes_held
returns-clause-concludes_held c =
    concluded c.args.memory.now c.args.f c.args.passed c.args.out.now _ c.in_ok-verdict.verdict c.in_ok-verdict.ensures c.restore.ensures

pub returns-in_err-verdict-clause-concludes_held : goal.returns-in_err-verdict-clause-concludes_held
returns-in_err-verdict-clause-concludes_held c =
    let m = c.args.memory.now in
    λ z h. absurd (question-held z m.state.now m.pivots.now m.rows.now m.values.now h _ c.requires.0 c.in_err-verdict.ensures)
