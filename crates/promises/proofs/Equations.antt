-- The equations of a call are those that row, tables and K fix, and one for each arrival, by its ESI and symbol. So if every arrival of one call is
-- among those of another, every equation is.
-- Assumes nothing.
use mathlib.Core.Path.{ap}
use mathlib.Core.List.{List}
use Prim.Native.Nat.{ℕ}
use Rattle.headers.specs.Row.{l_of}
use Rattle.headers.specs.declared.row.Row.{Row}
use Rattle.linear.specs.System.{Included}
use Rattle.linear.proofs.Joined.{included-self, included-parts}
use Rattle.solver.specs.System.{hdpc_rows, sent_row, arrival_rows, fixed_with, system_of}
use Rattle.promises.specs.Calls.{Among}

module _ (v : List ℕ) (r : Row) (k t : ℕ) {es xs fs ys : List ℕ} (m : Among t es xs fs ys) where
  pub among-arrivals : (L : ℕ) → Included L t (arrival_rows v r k t es xs) (arrival_rows v r k t fs ys)
  among-arrivals L i h =
      let a = m.each i h in
      (a.place, a.below, record { coefs = λ c _. ap (λ (e : ℕ). sent_row v r k e c) a.esi; bytes = a.symbol })

  pub among-equations : Included (l_of r) t (system_of r v k t es xs) (system_of r v k t fs ys)
  among-equations =
      let Z = fixed_with (hdpc_rows v r) v r k in
      included-parts (l_of r) t Z (arrival_rows v r k t es xs) Z (arrival_rows v r k t fs ys) (included-self Z) (among-arrivals (l_of r))
