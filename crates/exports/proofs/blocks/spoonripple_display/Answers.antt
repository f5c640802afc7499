-- `exports::blocks::spoonripple_display` meets its contract: it hands over what `locate` answered.
-- Assumes nothing.
use lib.ListN.{length}
use Rattle.field.specs.Answer.{outcome}
use Rattle.exports.proofs.Solving.{called-place}
use Rattle.exports.proofs.blocks.spoonripple_display.Goals as goal

pub returns : goal.returns
returns c =
    let a = c.args in
    called-place a.count a.t a.esis.now (length a.arrivals.now) (length a.rebuilt.now) a.i
    (outcome c.locate.result) c.measured-built.ensures c.locate.ensures c.hand.ensures c.told.ensures
