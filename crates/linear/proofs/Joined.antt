-- The sum of two systems: which equations it has, what fits it, and by how much equations more can lower the shortfall. So a system that is given
-- by groups is spoken of group by group.
-- Assumes nothing.
use mathlib.Core.Path.{◌≡◌, refl, sym, ap, ◌∙◌, subst}
use mathlib.Core.Logic.{◌⊎◌, inl, inr, ◌↔◌}
use mathlib.Core.List.{List}
use Prim.Native.Nat.{ℕ, ◌+◌, ◌-◌, ◌≤◌, ◌<◌}
use native.Mathlib.Decide.{dec_lt}
use native.Mathlib.Omega.{arith}
use Rattle.field.specs.Octet.{times}
use Rattle.field.specs.Sum.{sum}
use Rattle.linear.specs.Index.{cut}
use Rattle.linear.specs.Span.{Within}
use Rattle.linear.specs.Independent.{RowOf, RowsOf}
use Rattle.linear.specs.System.{System, SameEquation, OneOf, Included, joined}
use Rattle.linear.specs.Octets.{octets, oct}
use Rattle.linear.specs.Bytes.{OctetSymbols, FitsBytes, ShortfallBytes, cell, in_octets}
use Rattle.linear.proofs.Index.{ahead-first, ahead-then}
use Rattle.linear.proofs.Independent.{most-more, most-stays}
use Rattle.linear.proofs.Growth.{meets-one, fits-bytes-fewer, included-octets}
use Rattle.linear.proofs.Shortfall.{rows_of}

-- ---- equations of one system among those of another

module _ {F : Type 0} {L T : ℕ} where
  pub same-turned : {S R : System F} {i k : ℕ} → SameEquation L T S i R k → SameEquation L T R k S i
  same-turned s = record { coefs = λ c l. sym (s.coefs c l); bytes = λ t l. sym (s.bytes t l) }

  pub one_then : {S R Q : System F} {i k : ℕ} → SameEquation L T S i R k → OneOf L T R k Q → OneOf L T S i Q
  one_then s o = (o.0, o.1, record { coefs = λ c l. s.coefs c l ∙ o.2.coefs c l; bytes = λ t l. s.bytes t l ∙ o.2.bytes t l })

  pub included-self : (S : System F) → Included L T S S
  included-self S i h = (i, h, record { coefs = λ c l. refl; bytes = λ t l. refl })

  pub included-then : {S R Q : System F} → Included L T S R → Included L T R Q → Included L T S Q
  included-then f g i h = let o = f i h in one_then o.2 (g o.0 o.1)

-- ---- the equations of a sum

module _ {F : Type 0} (L T : ℕ) (S R : System F) where
  -- equation i of S is equation i of the sum
  pub joined-first : (i : ℕ) → i < S.count → SameEquation L T S i (joined S R) i
  joined-first i h = record {
    coefs = λ c _. ap (λ (f : ℕ → F). f c) (sym (ahead-first S.count S.coef R.coef i h));
    bytes = λ t _. ap (λ (f : ℕ → F). f t) (sym (ahead-first S.count S.byte R.byte i h));
  }

  -- and equation i of R comes after those of S
  pub joined-second : (i : ℕ) → SameEquation L T R i (joined S R) (S.count + i)
  joined-second i = record {
    coefs = λ c _. ap (λ (f : ℕ → F). f c) (sym (ahead-then S.count S.coef R.coef i));
    bytes = λ t _. ap (λ (f : ℕ → F). f t) (sym (ahead-then S.count S.byte R.byte i));
  }

  -- there are no others
  pub joined-each : (i : ℕ) → i < S.count + R.count → OneOf L T (joined S R) i S ⊎ OneOf L T (joined S R) i R
  joined-each i h = go (dec_lt i S.count)
    where
      go : Dec (i < S.count) → OneOf L T (joined S R) i S ⊎ OneOf L T (joined S R) i R
      go (yes l) = inl (i, l, same-turned (joined-first i l))
      go (no l) =
          let q : S.count + (i - S.count) ≡ i = omega arith in
          inr (i - S.count, omega arith, subst (λ (x : ℕ). SameEquation L T (joined S R) x R (i - S.count)) q (same-turned (joined-second (i - S.count))))

  pub included-first : Included L T S (joined S R)
  included-first i h = (i, omega arith, joined-first i h)

  pub included-second : Included L T R (joined S R)
  included-second i h = (S.count + i, omega arith, joined-second i)

  -- a system has all of them if it has those of both
  pub included-both : {Q : System F} → Included L T S Q → Included L T R Q → Included L T (joined S R) Q
  included-both {Q} f g i h = go (joined-each i h)
    where
      go : OneOf L T (joined S R) i S ⊎ OneOf L T (joined S R) i R → OneOf L T (joined S R) i Q
      go (inl o) = one_then o.2 (f o.0 o.1)
      go (inr o) = one_then o.2 (g o.0 o.1)

-- sums of parts
pub included-parts : {F : Type 0} (L T : ℕ) (S R Q P : System F) → Included L T S Q → Included L T R P → Included L T (joined S R) (joined Q P)
included-parts L T S R Q P f g = included-both L T S R (included-then f (included-first L T Q P)) (included-then g (included-second L T Q P))

-- ---- what fits a sum

-- a set fits a sum exactly when it fits both
pub fits-joined : (L T : ℕ) (S R : System ℕ) (C : List ℕ) → FitsBytes L T (joined S R) C ↔ (FitsBytes L T S C × FitsBytes L T R C)
fits-joined L T S R C = (
  λ f. (fits-bytes-fewer (included-first L T S R) f, fits-bytes-fewer (included-second L T S R) f),
  λ p. record { meets = λ i h. go p i (joined-each L T S R i h) },
)
  where
    go : FitsBytes L T S C × FitsBytes L T R C → (i : ℕ) → OneOf L T (joined S R) i S ⊎ OneOf L T (joined S R) i R
        → (t : ℕ) → t < T → sum L (λ c. times ((joined S R).coef i c) (cell T C c t)) ≡ (joined S R).byte i t
    go p i (inl o) = meets-one p.0 o
    go p i (inr o) = meets-one p.1 o

-- the symbols of a sum of octets are of octets
pub octets-joined : (T : ℕ) (S R : System ℕ) → OctetSymbols T S → OctetSymbols T R → OctetSymbols T (joined S R)
octets-joined T S R f g = record { below = λ i h t l. go i t l (joined-each 0 T S R i h) }
  where
    go : (i t : ℕ) → t < T → OneOf 0 T (joined S R) i S ⊎ OneOf 0 T (joined S R) i R → (joined S R).byte i t < 256
    go i t l (inl o) = subst (λ (x : ℕ). x < 256) (sym (o.2.bytes t l)) (f.below o.0 o.1 t l)
    go i t l (inr o) = subst (λ (x : ℕ). x < 256) (sym (o.2.bytes t l)) (g.below o.0 o.1 t l)

-- ---- equations more

-- Rows alone, whatever the symbols: so T is 0.
module _ {L T : ℕ} (S N : System ℕ) {R : System ℕ} {s t : ℕ} (inc : Included L 0 R (joined S N)) (x : ShortfallBytes L T S s) (y : ShortfallBytes L T R t) where
  -- row i of R is one of Q
  abbrev Of : System ℕ → ℕ → Type 0
  Of Q i = RowOf octets (cut L (in_octets R).coef i) Q.count (cut L (in_octets Q).coef)

  rows : {Q P : System ℕ} → Included L 0 Q P → RowsOf octets Q.count (cut L (in_octets Q).coef) P.count (cut L (in_octets P).coef)
  rows f = rows_of octets L 0 (included-octets f)

  -- the rows of R are rows of S and of N
  which : (i : ℕ) → i < R.count → Of S i ⊎ Of N i
  which i h = let o = inc i h in go o.2 (joined-each L 0 S N o.0 o.1)
    where
      go : {k : ℕ} → SameEquation L 0 R i (joined S N) k → OneOf L 0 (joined S N) k S ⊎ OneOf L 0 (joined S N) k N → Of S i ⊎ Of N i
      go e (inl o) = inl (o.0, o.1, λ c. ap oct (e.coefs c.0 c.1 ∙ o.2.coefs c.0 c.1))
      go e (inr o) = inr (o.0, o.1, λ c. ap oct (e.coefs c.0 c.1 ∙ o.2.coefs c.0 c.1))

  -- So the shortfall falls by no more than N has: an open answer is not followed by solved after fewer equations than it says.
  pub shortfall-floor : s ≤ N.count + t
  shortfall-floor =
      let h : y.lacks.rank ≤ N.count + x.lacks.rank = most-more octets L S.count R.count N.count x.lacks.rank y.lacks.rank
      (in_octets S).coef (in_octets R).coef (in_octets N).coef which x.lacks.most y.lacks.most in
      omega (arith, x.lacks.less, y.lacks.less)

  -- And where R has all rows of both it stays exactly when every row of N is a combination of rows of S.
  pub shortfall-stays : Included L 0 (joined S N) R → (t ≡ s) ↔ Within octets N.count (cut L (in_octets N).coef) S.count (cut L (in_octets S).coef)
  shortfall-stays all =
      let m = most-stays octets L S.count R.count N.count x.lacks.rank y.lacks.rank (in_octets S).coef (in_octets R).coef (in_octets N).coef
      (rows (included-then (included-first L 0 S N) all)) (rows (included-then (included-second L 0 S N) all))
      which x.lacks.most y.lacks.most in (
        λ e. m.0 (omega (arith, x.lacks.less, y.lacks.less)),
        λ w. let e : y.lacks.rank ≡ x.lacks.rank = m.1 w in omega (arith, x.lacks.less, y.lacks.less),
      )
