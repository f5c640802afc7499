-- `exports::symbols::spoonripple_slab_fma` meets its contract: count and room, then it tells what `symbol_slab::fma` answered.
-- Assumes nothing.
use Rattle.exports.proofs.Calls.{zero-told}
use Rattle.exports.proofs.symbols.spoonripple_slab_fma.Goals as goal

pub returns : goal.returns
returns c = zero-told c.in_default.ensures c.fma.result c.fma.ensures c.hand.ensures c.told.ensures
