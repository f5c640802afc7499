-- `stores::beneath::words::cross_rows` meets its contract.
-- Assumes nothing.
use mathlib.Core.Path.{◌≡◌, ap}
use Prim.Native.Nat.{ℕ, ◌+◌, ◌*◌}
use native.Mathlib.Omega.{arith}
use Rattle.std.specs.Prelude.{min}
use Rattle.field.proofs.Writing.{written_is}
use Rattle.stores.proofs.Columns.{crossed-none, crossed-more}
use Rattle.stores.proofs.beneath.words.cross_rows.Goals as goal

pub loop-r-init : goal.loop-r-init
loop-r-init c = let a = c.args in crossed-none _ a.n a.a a.b a.start (min a.start a.height) (omega arith)

pub loop-r-preserved : goal.loop-r-preserved
loop-r-preserved c =
    let a = c.args in
    let here : min c.loop-r.r a.height ≡ c.loop-r.r = omega arith in
    let next : c.loop-r.r + 1 ≡ min (c.loop-r.r + 1) a.height = omega arith in
    written_is
    (crossed-more _ a.n a.a a.b a.start _ _ c.loop-r.r (omega arith) (written_is c.loop-r.invariant (ap (λ (r : ℕ). r * a.n) here)) c.cross.ensures)
    (ap (λ (r : ℕ). r * a.n) next)

pub returns : goal.returns
returns c = let a = c.args in written_is c.loop-r.invariant (ap (λ (r : ℕ). r * a.n) (omega arith))
