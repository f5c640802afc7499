-- `stores::beneath::lists::in_column` meets its contract.
-- Assumes nothing.
use Rattle.std.proofs.Common.{rules, ◌*◌}
use Rattle.stores.specs.Bits.{bit_at}
use Rattle.stores.proofs.beneath.lists.in_column.Goals as goal

pub returns : goal.returns
returns c = let a = c.args in c.listed.ensures (λ i. bit_at a.ws.now (i * a.n) a.c) (λ k b h p. search rules)
