-- What fits, in a caller's words, is what fits the system of the call.
-- Assumes nothing.
use mathlib.Core.Path.{◌≡◌, subst}
use mathlib.Core.List.{List}
use Prim.Native.Nat.{ℕ, ◌+◌, ◌-◌}
use native.Mathlib.Omega.{arith}
use Rattle.headers.specs.Row.{l_of}
use Rattle.headers.specs.declared.row.Row.{Row}
use Rattle.linear.specs.Bytes.{Block, FitsBytes}
use Rattle.encoding.specs.Encoded.{encoded}
use Rattle.solver.specs.System.{hdpc_rows, system_of}
use Rattle.solver.proofs.Groups.{fits-groups}
use Rattle.promises.specs.Calls.{Meets, Yields, Fitting}

module _ (v : List ℕ) (r : Row) (k t : ℕ) (es xs C : List ℕ) where
  -- a set that fits the system meets the pre-code and the padding, and yields the arrivals
  pub fits-meets : FitsBytes (l_of r) t (system_of r v k t es xs) C → Meets v r k t C
  fits-meets f =
      let g = (fits-groups (hdpc_rows v r) r v k t es xs (l_of r) t C).0 f in
      record {
        ldpc = g.0.meets;
        hdpc = g.1.meets;
        padding = λ x p q b l. let e : k + (x - k) ≡ x = omega arith in subst (λ (y : ℕ). encoded v r y t C b ≡ 0) e (g.2.meets (x - k) (omega arith) b l);
      }

  pub fits-yields : FitsBytes (l_of r) t (system_of r v k t es xs) C → Yields v r k t es xs C
  fits-yields f = record { arrival = ((fits-groups (hdpc_rows v r) r v k t es xs (l_of r) t C).0 f).3.meets }

  -- and the other way round
  pub meets-fits : Meets v r k t C → Yields v r k t es xs C → FitsBytes (l_of r) t (system_of r v k t es xs) C
  meets-fits m y =
      (fits-groups (hdpc_rows v r) r v k t es xs (l_of r) t C).1 (
        record { meets = m.ldpc },
        record { meets = m.hdpc },
        record { meets = λ i h. m.padding (k + i) (omega arith) (omega arith) },
        record { meets = y.arrival },
      )

  pub fitting-fits : Fitting v r k t es xs C → FitsBytes (l_of r) t (system_of r v k t es xs) C
  fitting-fits f = meets-fits f.meets f.yields

  pub fits-fitting : Block (l_of r) t C → FitsBytes (l_of r) t (system_of r v k t es xs) C → Fitting v r k t es xs C
  fits-fitting b f = record { block = b; meets = fits-meets f; yields = fits-yields f }
