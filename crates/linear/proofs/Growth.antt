-- Demand 3's growth rule, in octets: a second system that has every equation of the first, in any order, and perhaps more; and the same equations
-- in another order.
-- Assumes nothing.
use mathlib.Core.Path.{◌≡◌, sym, ap, ◌∙◌}
use mathlib.Core.List.{List}
use Prim.Native.Nat.{ℕ, ◌≤◌, ◌<◌}
use Rattle.field.specs.Octet.{times}
use Rattle.field.specs.Sum.{sum}
use Rattle.field.proofs.Sums.{sum_same}
use Rattle.linear.specs.System.{System, OneOf, Included}
use Rattle.linear.specs.Octets.{octets, oct}
use Rattle.linear.specs.Bytes.{in_octets, cell, FitsBytes, SolvedBytes, ContradictionBytes, OpenBytes, ShortfallBytes}
use Rattle.linear.proofs.Shortfall.{shortfall-never-grows, shortfall-same}

pub included-octets : {L T : ℕ} {S R : System ℕ} → Included L T S R → Included L T (in_octets S) (in_octets R)
included-octets inc i h =
    ((inc i h).0, (inc i h).1, record { coefs = λ c l. ap oct ((inc i h).2.coefs c l); bytes = λ t l. ap oct ((inc i h).2.bytes t l) })

-- a set meets an equation of a system that it fits
pub meets-one : {L T : ℕ} {S R : System ℕ} {C : List ℕ} {i : ℕ} → FitsBytes L T R C → OneOf L T S i R
    → (t : ℕ) → t < T → sum L (λ c. times (S.coef i c) (cell T C c t)) ≡ S.byte i t
meets-one {L} {T} {C = C} f o t q =
    sum_same L (λ c h. ap (λ (x : ℕ). times x (cell T C c t)) (o.2.coefs c h)) ∙ f.meets o.0 o.1 t q ∙ sym (o.2.bytes t q)

-- ---- growth

module _ {L T : ℕ} {S R : System ℕ} (inc : Included L T S R) where
  -- what fits the second fits the first
  pub fits-bytes-fewer : {C : List ℕ} → FitsBytes L T R C → FitsBytes L T S C
  fits-bytes-fewer f = record { meets = λ i l. meets-one f (inc i l) }

  -- a contradiction stays one
  pub contradiction-remains : ContradictionBytes L T S → ContradictionBytes L T R
  contradiction-remains x = record { none = λ C b f. x.none C b (fits-bytes-fewer f) }

  -- solved is never open afterwards, and solved again has the same bytes
  pub solved-same-bytes : {C D : List ℕ} → SolvedBytes L T S C → SolvedBytes L T R D → D ≡ C
  solved-same-bytes {D = D} x y = x.only D y.block (fits-bytes-fewer y.fits)

  pub solved-never-opens : {C : List ℕ} → SolvedBytes L T S C → ¬ OpenBytes L T R
  solved-never-opens x o =
      o.differ (x.only o.first o.first_block (fits-bytes-fewer o.first_fits) ∙ sym (x.only o.second o.second_block (fits-bytes-fewer o.second_fits)))

  -- the shortfall doesn't grow
  pub shortfall-shrinks : {s t : ℕ} → ShortfallBytes L T S s → ShortfallBytes L T R t → t ≤ s
  shortfall-shrinks x y = shortfall-never-grows octets L T (included-octets inc) x.lacks y.lacks

-- ---- the same equations, in another order

module _ {L T : ℕ} {S R : System ℕ} (to : Included L T S R) (back : Included L T R S) where
  pub same-solved : {C : List ℕ} → SolvedBytes L T S C → SolvedBytes L T R C
  same-solved x = record { block = x.block; fits = fits-bytes-fewer back x.fits; only = λ D b f. x.only D b (fits-bytes-fewer to f) }

  pub same-contradiction : ContradictionBytes L T S → ContradictionBytes L T R
  same-contradiction x = contradiction-remains to x

  pub same-open : OpenBytes L T S → OpenBytes L T R
  same-open x = record {
    first = x.first;
    second = x.second;
    first_block = x.first_block;
    second_block = x.second_block;
    first_fits = fits-bytes-fewer back x.first_fits;
    second_fits = fits-bytes-fewer back x.second_fits;
    differ = x.differ;
  }

  pub same-shortfall : {s : ℕ} → ShortfallBytes L T S s → ShortfallBytes L T R s
  same-shortfall x = record { lacks = shortfall-same octets L T (included-octets to) (included-octets back) x.lacks }
