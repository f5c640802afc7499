-- `delivery::beneath::receiver::restore` meets its contract.
-- Assumes nothing.
use mathlib.Core.Path.{◌≡◌, sym, ap, ap₂, ◌∙◌}
use mathlib.Core.List.{List}
use Prim.Native.Nat.{ℕ, ◌*◌, ◌≤◌}
use native.Mathlib.Omega.{arith}
use lib.ListN.{length}
use lib.Seq.{length-take-le}
use Rattle.headers.specs.declared.row.Row.{Row}
use Rattle.intake.specs.State.{row_in, l_in, t_in}
use Rattle.delivery.specs.Hearing.{Restorable}
use Rattle.delivery.proofs.Settling.{rebuildable, restored}
use Rattle.delivery.proofs.beneath.receiver.restore.Goals as goal

-- so many octets has the set
octets : (st : List ℕ) {r : Row} {t set out : ℕ} → Restorable st set out → r ≡ row_in st → t ≡ t_in st → r.l * t ≡ l_in st * t_in st
octets st m e f = ap₂ ◌*◌ (ap (λ (q : Row). q.l) e ∙ m.rules.derived.l-fits) f

pub overflow_mul-l : goal.overflow_mul-l
overflow_mul-l c = omega (arith, octets c.args.state.now c.requires c.row_in-r.ensures c.from.ensures, c.requires.symbols)

pub slice_bounds-leave-end-2 : goal.slice_bounds-leave-end-2
slice_bounds-leave-end-2 c =
    let e = octets c.args.state.now c.requires c.row_in-r.ensures c.from.ensures in
    sym (length-take-le _ _ (omega (arith, e, c.requires.symbols)))

pub leave-requires : goal.leave-requires
leave-requires c =
    rebuildable c.args.state.now c.args.set.now c.args.out.now c.row_in-r.ensures (octets c.args.state.now c.requires c.row_in-r.ensures c.from.ensures) c.requires

pub returns : goal.returns
returns c =
    restored c.args.state.now c.args.set.now c.args.out.now _ c.args.v c.row_in-r.ensures
    (octets c.args.state.now c.requires c.row_in-r.ensures c.from.ensures) c.leave.ensures
