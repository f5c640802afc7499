-- `stores::beneath::words::cross` meets its contract.
-- Assumes nothing.
use mathlib.Core.Path.{subst}
use Prim.Native.Nat.{ℕ}
use Rattle.stores.proofs.Columns.{Put, crossed-row}
use Rattle.stores.proofs.beneath.words.cross.Goals as goal

pub returns : goal.returns
returns c =
    crossed-row _ _ _ c.args.at c.args.n c.args.a c.args.b c.requires.0 c.requires.1
    (subst (λ (v : ℕ). Put c.args.ws.now c.put.new.ws c.args.at c.args.a v) c.get-y.ensures c.put.ensures)
    (subst (λ (v : ℕ). Put c.put.new.ws c.put-2.new.ws c.args.at c.args.b v) c.get-x.ensures c.put-2.ensures)
