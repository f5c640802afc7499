-- `builders::beneath::adding::enc_rows` meets its contract.
-- Assumes nothing.
use mathlib.Core.Path.{ap}
use Prim.Native.Nat.{ℕ, ◌+◌}
use Rattle.constraints.specs.Encoding.{enc}
use Rattle.builders.specs.Adding.{only}
use Rattle.builders.proofs.Adding.{added-as, sums_none, sums-more}
use Rattle.builders.proofs.beneath.adding.enc_rows.Invariants.{term}
use Rattle.builders.proofs.beneath.adding.enc_rows.Goals as goal

pub loop-k-init : goal.loop-k-init
loop-k-init c = let a = c.args in sums_none (term a.from a.tables.now a.isis.now a.j a.w a.p a.p1) _

pub loop-k-preserved : goal.loop-k-preserved
loop-k-preserved c =
    let a = c.args in
    sums-more (term a.from a.tables.now a.isis.now a.j a.w a.p a.p1) c.loop-k.k c.loop-k.invariant
    (added-as c.enc_row.ensures (λ r q. ap (λ (x : ℕ). only (a.from + c.loop-k.k) (enc a.tables.now a.j a.w a.p a.p1 x) r q) c.row_number-x.ensures))
