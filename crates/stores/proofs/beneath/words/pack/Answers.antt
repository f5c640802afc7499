-- `stores::beneath::words::pack` meets its contract.
-- Assumes nothing.
use Prim.Native.Nat.{◌*◌}
use Rattle.stores.proofs.Rows.{copied-down, packed_more}
use Rattle.stores.proofs.beneath.words.pack.Goals as goal

pub loop-r-preserved : goal.loop-r-preserved
loop-r-preserved c =
    let a = c.args in
    packed_more _ a.n a.old _ _ c.loop-r.r c.requires.0 c.loop-r.invariant
    (let u = c.copy_within.ensures in copied-down (c.loop-r.r * a.old) (c.loop-r.r * a.n) a.n u.len u.by_index.0 u.by_index.1 u.by_index.2)
