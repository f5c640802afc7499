-- `solver::display::display` meets its contract: a symbol that is located lies whole in its store.
-- Assumes nothing.
use Rattle.std.proofs.Common.{length}
use native.Mathlib.Nat.{add-sub_cancel_left}
use Rattle.solver.proofs.Displays.{arrived-in, rebuilt-in}
use Rattle.solver.proofs.display.display.Goals as goal

pub slice_bounds-result-end-in-Arrived : goal.slice_bounds-result-end-in-Arrived
slice_bounds-result-end-in-Arrived c =
    let a = c.args in
    arrived-in a.k a.t a.esis.now (length a.arrivals.now) (length a.rebuilt.now) a.i _ (rw c.in-Arrived.is at c.in-Ok.ensures)

pub slice_bounds-result-end-in-Rebuilt : goal.slice_bounds-result-end-in-Rebuilt
slice_bounds-result-end-in-Rebuilt c =
    let a = c.args in
    rebuilt-in a.k a.t a.esis.now (length a.arrivals.now) (length a.rebuilt.now) a.i _ (rw c.in-Rebuilt.is at c.in-Ok.ensures)

pub returns-in-Rebuilt-clause-result_value : goal.returns-in-Rebuilt-clause-result_value
returns-in-Rebuilt-clause-result_value c = rw (add-sub_cancel_left, ← (rw c.in-Rebuilt.is at c.in-Ok.ensures))
