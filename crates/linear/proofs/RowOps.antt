-- The three row operations keep what a family of rows spans.
-- Assumes nothing.
use mathlib.Core.Path.{◌≡◌, sym, ap, ap₂, ◌∙◌}
use mathlib.Core.Logic.{◌≢◌, ◌⊎◌, inl, inr}
use Prim.Native.Nat.{ℕ, ◌<◌}
use native.Mathlib.Decide.{ℕ_discrete}
use Rattle.linear.specs.Field.{Field}
use Rattle.linear.specs.Index.{Col, cut}
use Rattle.linear.specs.Span.{InSpan, Within, SameSpan}
use Rattle.linear.specs.System.{System, equation}
use Rattle.linear.specs.RowOps.{Added, Scaled, Swapped}
use Rattle.linear.proofs.Field.{add-zero}
use Rattle.linear.proofs.Span.{span-member, span-add, span-scale, span-eq, within-trans}

module _ (K : Field) where
  open K use {carrier as F, ◌⊕◌, ◌⊗◌, 𝟙, add-self, add_assoc, mul_assoc, one-mul}

  infixl 60 ◌⊕◌
  infixl 70 ◌⊗◌
  module _ {J : Type 0} where
    pub same-span-refl : (n : ℕ) (w : ℕ → J → F) → SameSpan K n w w
    same-span-refl n w = record { to = λ i h. span-member K n w i h; back = λ i h. span-member K n w i h }

    pub same-span-trans : {n : ℕ} {w u v : ℕ → J → F} → SameSpan K n w u → SameSpan K n u v → SameSpan K n w v
    same-span-trans a b = record { to = within-trans K b.to a.to; back = within-trans K a.back b.back }

    pub added-same : {n k : ℕ} {factor : ℕ → F} {w u : ℕ → J → F} → Added K n k factor w u → SameSpan K n w u
    added-same {n} {k} {factor} {w} {u} a = record { to = λ i h. to' i h (ℕ_discrete i k); back = λ i h. back' i h (ℕ_discrete i k) }
      where
        to' : (i : ℕ) → i < n → Dec (i ≡ k) → InSpan K n w (u i)
        to' i h (yes e) = span-eq K (λ j. ap (λ (x : ℕ). u x j) e ∙ a.row_kept j) (span-member K n w k a.row_below)
        to' i h (no ne) = span-eq K (a.others i h ne) (span-add K (span-member K n w i h) (span-scale K (factor i) (span-member K n w k a.row_below)))

        undo : (i : ℕ) → i < n → i ≢ k → (j : J) → w i j ≡ u i j ⊕ factor i ⊗ u k j
        undo i h ne j = sym (
            ap₂ ◌⊕◌ (a.others i h ne j) (ap (λ (x : F). factor i ⊗ x) (a.row_kept j))
            ∙ add_assoc (w i j) (factor i ⊗ w k j) (factor i ⊗ w k j)
            ∙ ap (λ (x : F). w i j ⊕ x) (add-self (factor i ⊗ w k j))
            ∙ add-zero K (w i j))

        back' : (i : ℕ) → i < n → Dec (i ≡ k) → InSpan K n u (w i)
        back' i h (yes e) = span-eq K (λ j. ap (λ (x : ℕ). w x j) e ∙ sym (a.row_kept j)) (span-member K n u k a.row_below)
        back' i h (no ne) = span-eq K (undo i h ne) (span-add K (span-member K n u i h) (span-scale K (factor i) (span-member K n u k a.row_below)))

    pub scaled-same : {n k : ℕ} {x y : F} {w u : ℕ → J → F} → Scaled K n k x y w u → SameSpan K n w u
    scaled-same {n} {k} {x} {y} {w} {u} a = record { to = λ i h. to' i h (ℕ_discrete i k); back = λ i h. back' i h (ℕ_discrete i k) }
      where
        to' : (i : ℕ) → i < n → Dec (i ≡ k) → InSpan K n w (u i)
        to' i h (yes e) = span-eq K (λ j. ap (λ (z : ℕ). u z j) e ∙ a.row j) (span-scale K x (span-member K n w k a.row_below))
        to' i h (no ne) = span-eq K (a.others i h ne) (span-member K n w i h)

        undo : (j : J) → w k j ≡ y ⊗ u k j
        undo j = sym (ap (λ (z : F). y ⊗ z) (a.row j) ∙ sym (mul_assoc y x (w k j)) ∙ ap (λ (z : F). z ⊗ w k j) a.undone ∙ one-mul (w k j))

        back' : (i : ℕ) → i < n → Dec (i ≡ k) → InSpan K n u (w i)
        back' i h (yes e) = span-eq K (λ j. ap (λ (z : ℕ). w z j) e ∙ undo j) (span-scale K y (span-member K n u k a.row_below))
        back' i h (no ne) = span-eq K (λ j. sym (a.others i h ne j)) (span-member K n u i h)

    swapped-to : {n i k : ℕ} {w u : ℕ → J → F} → Swapped K n i k w u → Within K n u n w
    swapped-to {n} {i} {k} {w} {u} a m h = go (ℕ_discrete m i) (ℕ_discrete m k)
      where
        go : Dec (m ≡ i) → Dec (m ≡ k) → InSpan K n w (u m)
        go (yes e) d = span-eq K (λ j. ap (λ (z : ℕ). u z j) e ∙ a.first j) (span-member K n w k a.second_below)
        go (no ne) (yes e) = span-eq K (λ j. ap (λ (z : ℕ). u z j) e ∙ a.second j) (span-member K n w i a.first_below)
        go (no ne) (no nf) = span-eq K (a.others m h ne nf) (span-member K n w m h)

    pub swapped_same : {n i k : ℕ} {w u : ℕ → J → F} → Swapped K n i k w u → SameSpan K n w u
    swapped_same a = record {
      to = swapped-to a;
      back =
          swapped-to (record {
            first_below = a.first_below;
            second_below = a.second_below;
            first = λ j. sym (a.second j);
            second = λ j. sym (a.first j);
            others = λ m h ne nf j. sym (a.others m h ne nf j);
          });
    }

  -- A row operation on the coefficients and the same one on the bytes is one on the equations.
  module _ (L T n : ℕ) (S R : System F) where
    pub added-both : {k : ℕ} {factor : ℕ → F} → Added K n k factor (cut L S.coef) (cut L R.coef)
        → Added K n k factor (cut T S.byte) (cut T R.byte) → Added K n k factor (equation L T S) (equation L T R)
    unfolding equation
    added-both {k} {factor} a b = record { row_below = a.row_below; row_kept = kept; others = rows }
      where
        kept : (j : Col L ⊎ Col T) → equation L T R k j ≡ equation L T S k j
        kept (inl c) = a.row_kept c
        kept (inr t) = b.row_kept t

        rows : (i : ℕ) → i < n → i ≢ k → (j : Col L ⊎ Col T) → equation L T R i j ≡ equation L T S i j ⊕ factor i ⊗ equation L T S k j
        rows i h ne (inl c) = a.others i h ne c
        rows i h ne (inr t) = b.others i h ne t

    pub scaled-both : {k : ℕ} {x y : F} → Scaled K n k x y (cut L S.coef) (cut L R.coef)
        → Scaled K n k x y (cut T S.byte) (cut T R.byte) → Scaled K n k x y (equation L T S) (equation L T R)
    unfolding equation
    scaled-both {k} {x} a b = record { row_below = a.row_below; undone = a.undone; row = row'; others = others' }
      where
        row' : (j : Col L ⊎ Col T) → equation L T R k j ≡ x ⊗ equation L T S k j
        row' (inl c) = a.row c
        row' (inr t) = b.row t

        others' : (i : ℕ) → i < n → i ≢ k → (j : Col L ⊎ Col T) → equation L T R i j ≡ equation L T S i j
        others' i h ne (inl c) = a.others i h ne c
        others' i h ne (inr t) = b.others i h ne t

    pub swapped-both : {i k : ℕ} → Swapped K n i k (cut L S.coef) (cut L R.coef) → Swapped K n i k (cut T S.byte) (cut T R.byte)
        → Swapped K n i k (equation L T S) (equation L T R)
    unfolding equation
    swapped-both {i} {k} a b = record { first_below = a.first_below; second_below = a.second_below; first = first'; second = second'; others = others' }
      where
        first' : (j : Col L ⊎ Col T) → equation L T R i j ≡ equation L T S k j
        first' (inl c) = a.first c
        first' (inr t) = b.first t

        second' : (j : Col L ⊎ Col T) → equation L T R k j ≡ equation L T S i j
        second' (inl c) = a.second c
        second' (inr t) = b.second t

        others' : (m : ℕ) → m < n → m ≢ i → m ≢ k → (j : Col L ⊎ Col T) → equation L T R m j ≡ equation L T S m j
        others' m h ne nf (inl c) = a.others m h ne nf c
        others' m h ne nf (inr t) = b.others m h ne nf t
