-- A system has one shortfall. It does not grow with more equations, and is the same with the same ones in any order and number.
-- Assumes nothing.
use mathlib.Core.Path.{◌≡◌}
use Prim.Native.Nat.{ℕ, ◌≤◌}
use native.Mathlib.Omega.{arith}
use Rattle.linear.specs.Field.{Field}
use Rattle.linear.specs.Index.{cut}
use Rattle.linear.specs.Independent.{MostIndependent, RowsOf}
use Rattle.linear.specs.System.{System, Included, Shortfall}
use Rattle.linear.proofs.Independent.{most-unique, rank, most-grows, most-same}

module _ (K : Field) (L T : ℕ) where
  open K use {carrier as F}

  pub shortfall-once : {S : System F} {s t : ℕ} → Shortfall K L T S s → Shortfall K L T S t → s ≡ t
  shortfall-once {S} {s} {t} a b =
      let e : a.rank ≡ b.rank = most-unique K a.most b.most in
      omega (arith, a.less, b.less)

  pub rows_of : {S R : System F} → Included L T S R → RowsOf K S.count (cut L S.coef) R.count (cut L R.coef)
  rows_of h i l = ((h i l).0, (h i l).1, λ c. (h i l).2.coefs c.0 c.1)

  pub shortfall-never-grows : {S R : System F} {s t : ℕ} → Included L T S R → Shortfall K L T S s → Shortfall K L T R t → t ≤ s
  shortfall-never-grows {S} {R} h a b =
      let p : a.rank ≤ b.rank = most-grows K L S.count R.count a.rank b.rank S.coef R.coef (rows_of h) a.most b.most in
      omega (arith, a.less, b.less)

  -- the same equations, in any order and number: the same shortfall
  pub shortfall-same : {S R : System F} {s : ℕ} → Included L T S R → Included L T R S → Shortfall K L T S s → Shortfall K L T R s
  shortfall-same {S} {R} {s} h g a = go (rank K L R.count R.coef)
    where
      go : (r : ℕ) × MostIndependent K R.count (cut L R.coef) r → Shortfall K L T R s
      go (r, m) =
          let e : a.rank ≡ r = most-same K L S.count R.count a.rank r S.coef R.coef (rows_of h) (rows_of g) a.most m in
          record { rank = r; most = m; less = omega (arith, a.less) }
