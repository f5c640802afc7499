-- `exports::symbols::spoonripple_slab_add_assign` meets its contract: count and room, then it tells what `symbol_slab::add_assign` answered.
-- Assumes nothing.
use Rattle.exports.proofs.Calls.{zero-told}
use Rattle.exports.proofs.symbols.spoonripple_slab_add_assign.Goals as goal

pub returns : goal.returns
returns c = zero-told c.in_default.ensures c.add_assign.result c.add_assign.ensures c.hand.ensures c.told.ensures
