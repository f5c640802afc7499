-- `exports::blocks::spoonripple_solve` meets its contract: room for the shortfall, then what `solve` answered.
-- Assumes nothing.
use Rattle.std.proofs.Common.{rules}
use Rattle.exports.proofs.Solving.{told-unroomed, told-solved}
use Rattle.exports.proofs.blocks.spoonripple_solve.Goals as goal

pub returns-then-is_empty : goal.returns-then-is_empty
returns-then-is_empty c =
    let u = rw c.handed_row-r.ensures at c.solve.ensures in
    told-unroomed _ _ _ _ _ _ _ _ _ _ _ _ _ c.solve.result (search rules) u c.told.ensures

pub returns : goal.returns
returns c =
    let u = rw c.handed_row-r.ensures at c.solve-answer.ensures in
    told-solved _ _ _ _ _ _ _ _ _ _ _ _ _ _ c.solve-answer.result (search rules) u c.tell.ensures.code c.tell.ensures.shortfall
