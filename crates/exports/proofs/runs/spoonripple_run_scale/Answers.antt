-- `exports::runs::spoonripple_run_scale` meets its contract: room, then it tells what `runs::scale` answered.
-- Assumes nothing.
use mathlib.Core.Path.{ap}
use Rattle.std.specs.Prelude.{Ok}
use Rattle.field.specs.Answer.{given}
use Rattle.exports.proofs.Calls.{zero-told}
use Rattle.exports.proofs.runs.spoonripple_run_scale.Goals as goal

pub returns : goal.returns
returns c =
    zero-told c.in_default.ensures (Ok c.scale.result) (ap given c.scale.ensures.value, c.scale.ensures.written) c.hand.ensures c.told.ensures
