-- `solver::beneath::esis::any_large` meets its contract.
-- Assumes nothing.
use Rattle.std.proofs.Common.{◌≡◌, true, false, leb, rules, tests}
use Rattle.std.proofs.lemmas.Iterator.{YieldsList-from_slice, cases_from_any}
use Rattle.solver.proofs.Displays.{large-told}
use Rattle.solver.proofs.beneath.esis.any_large.Goals as goal

pub returns : goal.returns
returns c =
    large-told _ _ (cases_from_any _ _ _ (λ e. leb 16777216 e ≡ true) (λ e. leb 16777216 e ≡ false) c.any.ensures.ran
    (YieldsList-from_slice c.args.esis.now cc) (λ x q k. search (rules, tests)) (λ x q k. search (rules, tests)))
