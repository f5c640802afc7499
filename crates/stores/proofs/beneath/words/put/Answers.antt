-- `stores::beneath::words::put` meets its contract.
-- Assumes nothing.
use Prim.Native.Nat.{◌+◌, ◌/◌, ◌%◌}
use native.Mathlib.Omega.{arith}
use lib.ListN.{get_or}
use Rattle.field.proofs.Writing.{written_none, written-more}
use Rattle.stores.proofs.Bits.{flipped}
use borrow.Author.Rules.{rules}
use Rattle.stores.proofs.beneath.words.put.Goals as goal

pub returns : goal.returns
returns c =
    let a = c.args in
    written-more (written_none _ a.ws.now (a.at + a.c / 64)) (omega arith) (search rules)
    (flipped (get_or a.ws.now (a.at + a.c / 64) 0) (a.c % 64) a.v (omega arith) (search rules))
