-- `stores::beneath::lists::in_row` meets its contract.
-- Assumes nothing.
use Rattle.std.proofs.Common.{rules}
use Rattle.stores.specs.Bits.{bit_at}
use Rattle.stores.proofs.beneath.lists.in_row.Goals as goal

pub returns : goal.returns
returns c = c.listed.ensures (bit_at c.args.ws.now c.args.at) (λ k b h p. search rules)
