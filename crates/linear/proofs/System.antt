-- What fits a system fits all that follows from it, and a row of zeros whose symbol is not 0 is a contradiction.
-- Assumes nothing.
use mathlib.Core.Path.{◌≡◌, sym, ap, ◌∙◌}
use mathlib.Core.Logic.{◌≢◌, ◌⊎◌, inl, inr}
use Prim.Native.Nat.{ℕ, ◌<◌}
use Rattle.linear.specs.Field.{Field}
use Rattle.linear.specs.Index.{Col}
use Rattle.linear.specs.Total.{total}
use Rattle.linear.specs.Span.{InSpan}
use Rattle.linear.specs.System.{System, Symbols, Same, SameEquation, Included, equation, Fits, Follows, Solved, Contradiction}
use Rattle.linear.proofs.Field.{zero-mul}
use Rattle.linear.proofs.Total.{total_ext, total-vanish}
use Rattle.linear.proofs.Span.{lin-lin, span-member, span-eq}

pub same-sym : {F : Type 0} {L T : ℕ} {C D : Symbols F} → Same L T C D → Same L T D C
same-sym s = record { at = λ c l t q. sym (s.at c l t q) }

pub same-trans : {F : Type 0} {L T : ℕ} {C D E : Symbols F} → Same L T C D → Same L T D E → Same L T C E
same-trans s u = record { at = λ c l t q. s.at c l t q ∙ u.at c l t q }

module _ (K : Field) (L T : ℕ) where
  open K use {carrier as F, ◌⊗◌, 𝟘}

  infixl 70 ◌⊗◌
  pub fits-same : {S : System F} {C D : Symbols F} → Same L T C D → Fits K L T S C → Fits K L T S D
  fits-same {S} s f = record { meets = λ i l t q. total_ext K L (λ c b. ap (λ (x : F). S.coef i c ⊗ x) (sym (s.at c b t q))) ∙ f.meets i l t q }

  pub fits-follows : {S R : System F} {C : Symbols F} → Follows K L T S R → Fits K L T S C → Fits K L T R C
  unfolding equation
  fits-follows {S} {R} {C} h f = record { meets = λ i l t q. go i t q (h i l) }
    where
      go : (i t : ℕ) → t < T → InSpan K S.count (equation L T S) (equation L T R i) → total K L (λ c. R.coef i c ⊗ C c t) ≡ R.byte i t
      go i t q s =
          total_ext K L (λ c l. ap (λ (x : F). x ⊗ C c t) (s.eq (inl (c, l))))
          ∙ sym (lin-lin K S.count L s.coef S.coef C t)
          ∙ total_ext K S.count (λ k l. ap (λ (x : F). s.coef k ⊗ x) (f.meets k l t q))
          ∙ sym (s.eq (inr (t, q)))

  -- a contradiction among what follows is one of the system
  pub contradiction-follows : {S R : System F} → Follows K L T S R → Contradiction K L T R → Contradiction K L T S
  contradiction-follows h a = record { none = λ C f. a.none C (fits-follows h f) }

  -- a row that is 0 and whose symbol is not
  pub clash : {S : System F} (i t : ℕ) → i < S.count → t < T → ((c : ℕ) → c < L → S.coef i c ≡ 𝟘) → S.byte i t ≢ 𝟘 → Contradiction K L T S
  clash i t h q z nz = record {
    none = λ C f. nz (sym (f.meets i h t q) ∙ total-vanish K L (λ c l. ap (λ (x : F). x ⊗ C c t) (z c l) ∙ zero-mul K (C c t)));
  }

  pub solved-same : {S : System F} {C D : Symbols F} → Same L T C D → Solved K L T S C → Solved K L T S D
  solved-same s a = record { fits = fits-same s a.fits; only = λ E f. same-trans (a.only E f) s }

  -- equations follow from any system that has them
  pub follows-included : {S R : System F} → Included L T S R → Follows K L T R S
  unfolding equation
  follows-included {S} {R} h i l = go (h i l)
    where
      same : {k : ℕ} → SameEquation L T S i R k → (j : Col L ⊎ Col T) → equation L T S i j ≡ equation L T R k j
      same e (inl c) = e.coefs c.0 c.1
      same e (inr t) = e.bytes t.0 t.1

      go : (k : ℕ) × (k < R.count) × SameEquation L T S i R k → InSpan K R.count (equation L T R) (equation L T S i)
      go (k, b, e) = span-eq K (same e) (span-member K R.count (equation L T R) k b)
