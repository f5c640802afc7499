-- `solver::display::first` meets its contract.
-- Assumes nothing.
use Rattle.std.proofs.Common.{◌≡◌, ◌≢◌, sym, ◌∙◌, rules, tests}
use Rattle.std.proofs.lemmas.Iterator.{YieldsList-from_slice, IsFirst-from_position}
use Rattle.solver.proofs.Displays.{standing-told}
use Rattle.solver.proofs.display.first.Goals as goal

pub returns : goal.returns
returns c =
    let a = c.args in
    c.unwrap_or.ensures ∙ sym (standing-told a.esis.now a.i c.position.result (IsFirst-from_position _ _ _ (λ e. e ≡ a.i) (λ e. e ≢ a.i) c.position.ensures.ran
    (YieldsList-from_slice a.esis.now cc) (λ x q k. search (rules, tests)) (λ x q k. search (rules, tests))))
