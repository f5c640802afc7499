-- The system of a call by its groups, whatever stands for the HDPC rows: whose equations it has, what fits it, and that its symbols are of octets.
-- Assumes nothing.
use mathlib.Core.Path.{◌≡◌, refl}
use mathlib.Core.Logic.{◌↔◌}
use mathlib.Core.List.{List}
use Prim.Native.Nat.{ℕ}
use native.Mathlib.Omega.{arith}
use lib.ListN.{length}
use Rattle.headers.specs.declared.row.Row.{Row}
use Rattle.linear.specs.System.{System, Included, joined}
use Rattle.linear.specs.Bytes.{Bytes, OctetSymbols, FitsBytes}
use Rattle.linear.proofs.Joined.{included-then, included-first, included-second, included-both, fits-joined, octets-joined}
use Rattle.solver.specs.System.{equations, blank_rows, ldpc_rows, padding_rows, arrival_rows, fixed_with, system_with, system_of}

-- the system of a call has M equations
pub counted : (r : Row) (v : List ℕ) (k t : ℕ) (es xs : List ℕ) → (system_of r v k t es xs).count ≡ equations r k (length es)
counted r v k t es xs = refl

-- symbols that are 0 are of octets
pub octets-blank : (t n : ℕ) (f : ℕ → ℕ → ℕ) → OctetSymbols t (blank_rows n f)
octets-blank t n f = record { below = λ i h b l. omega arith }

module _ (D : System ℕ) (r : Row) (v : List ℕ) (k t : ℕ) (es xs : List ℕ) where
  abbrev A : System ℕ
  A = ldpc_rows r

  abbrev B : System ℕ
  B = padding_rows v r k

  abbrev E : System ℕ
  E = arrival_rows v r k t es xs

  abbrev Z : System ℕ
  Z = fixed_with D v r k

  abbrev S : System ℕ
  S = system_with D r v k t es xs

  -- lent symbols are of octets
  pub octet-symbols : OctetSymbols t D → Bytes xs → OctetSymbols t S
  octet-symbols d small =
      octets-joined t Z E (octets-joined t (joined A D) B (octets-joined t A D (octets-blank t _ _) d) (octets-blank t _ _))
      (record { below = λ i h b l. small _ })

  module _ (L T : ℕ) where
    -- it has the equations of each group
    pub has-fixed : Included L T Z S
    has-fixed = included-first L T Z E

    pub has-ldpc : Included L T A S
    has-ldpc = included-then (included-then (included-first L T A D) (included-first L T (joined A D) B)) has-fixed

    pub has-hdpc : Included L T D S
    has-hdpc = included-then (included-then (included-second L T A D) (included-first L T (joined A D) B)) has-fixed

    pub has-padding : Included L T B S
    has-padding = included-then (included-second L T (joined A D) B) has-fixed

    pub has-arrivals : Included L T E S
    has-arrivals = included-second L T Z E

    -- and no others
    pub groups-in : {Q : System ℕ} → Included L T A Q → Included L T D Q → Included L T B Q → Included L T E Q → Included L T S Q
    groups-in a d b e = included-both L T Z E (included-both L T (joined A D) B (included-both L T A D a d) b) e

    -- a set fits exactly when it fits each group
    pub fits-groups : (C : List ℕ) → FitsBytes L T S C ↔ (FitsBytes L T A C × FitsBytes L T D C × FitsBytes L T B C × FitsBytes L T E C)
    fits-groups C =
        let first = fits-joined L T A D C in
        let second = fits-joined L T (joined A D) B C in
        let third = fits-joined L T Z E C in (
          λ f. let p = third.0 f in let q = second.0 p.0 in let o = first.0 q.0 in (o.0, o.1, q.1, p.1),
          λ p. third.1 (second.1 (first.1 (p.0, p.1), p.2), p.3),
        )
