-- `stores::beneath::words::count_bits` meets its contract.
-- Assumes nothing.
use native.Mathlib.Omega.{arith}
use Rattle.stores.proofs.Popcount.{bits-counted}
use Rattle.stores.proofs.beneath.words.count_bits.Goals as goal

pub returns : goal.returns
returns c = let a = c.args in bits-counted a.w a.b a.m (omega arith)
