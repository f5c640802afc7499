-- `headers::transmission::put` meets its contract.
-- Assumes nothing.
use Rattle.std.proofs.Common.{arith}
use Rattle.headers.proofs.Headers.{info-laid}
use Rattle.headers.proofs.transmission.put.Goals as goal

pub put-requires-6 : goal.put-requires-6
put-requires-6 c = (
  omega (arith, c.put-5.ensures.size, c.put-4.ensures.size, c.put-3.ensures.size, c.put-2.ensures.size, c.put.ensures.size, c.requires),
  omega arith,
)

pub returns : goal.returns
returns c =
    info-laid c.args.info c.put.ensures c.put-2.ensures c.put-3.ensures c.put-4.ensures c.put-5.ensures c.put-6.ensures

pub shape_of-store : goal.shape_of-store
shape_of-store c = (returns c).size
