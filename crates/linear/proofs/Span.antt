-- Spans: members, sums and multiples, combinations of combinations.
-- Assumes nothing.
use mathlib.Core.Path.{◌≡◌, sym, ap, ap₂, ◌∙◌}
use Prim.Native.Nat.{ℕ, ◌<◌}
use Rattle.linear.specs.Field.{Field}
use Rattle.linear.specs.Total.{total, delta}
use Rattle.linear.specs.Span.{lin, InSpan, Within}
use Rattle.linear.proofs.Field.{zero-mul, add-mul}
use Rattle.linear.proofs.Index.{choose}
use Rattle.linear.proofs.Total.{total_ext, total-vanish, total-add, total-mul, total-mul-right, total-swap, total-delta}

module _ (K : Field) where
  open K use {carrier as F, ◌⊕◌, ◌⊗◌, 𝟘, mul_comm, mul_assoc}

  infixl 60 ◌⊕◌
  infixl 70 ◌⊗◌
  module _ {J : Type 0} where
    -- a combination of combinations
    pub lin-lin : (n m : ℕ) (a : ℕ → F) (P : ℕ → ℕ → F) (u : ℕ → J → F) (j : J)
        → total K n (λ i. a i ⊗ lin K m (P i) u j) ≡ total K m (λ k. total K n (λ i. a i ⊗ P i k) ⊗ u k j)
    lin-lin n m a P u j =
        total_ext K n (λ i l. sym (total-mul K m (a i) (λ k. P i k ⊗ u k j)))
        ∙ total-swap K n m (λ i k. a i ⊗ (P i k ⊗ u k j))
        ∙ total_ext K m (λ k l. total_ext K n (λ i q. sym (mul_assoc (a i) (P i k) (u k j))) ∙ total-mul-right K n (λ i. a i ⊗ P i k) (u k j))

    -- the coefficients of each vector of w over u, as one function
    pub coefs : (n : ℕ) {m : ℕ} {w u : ℕ → J → F} → Within K n w m u
        → (P : ℕ → ℕ → F) × ((i : ℕ) → i < n → (j : J) → w i j ≡ lin K m (P i) u j)
    coefs n {m} {w} {u} h = choose {Q = λ i a. (j : J) → w i j ≡ lin K m a u j} n (λ _. 𝟘) (λ i l. ((h i l).coef, (h i l).eq))

    pub span-member : (n : ℕ) (w : ℕ → J → F) (i : ℕ) → i < n → InSpan K n w (w i)
    span-member n w i h = record {
      coef = λ k. delta K k i;
      eq = λ j. sym (total_ext K n (λ k l. mul_comm (delta K k i) (w k j)) ∙ total-delta K n i (λ k. w k j) h);
    }

    pub span-zero : (n : ℕ) (w : ℕ → J → F) {v : J → F} → ((j : J) → v j ≡ 𝟘) → InSpan K n w v
    span-zero n w z = record { coef = λ _. 𝟘; eq = λ j. z j ∙ sym (total-vanish K n (λ i l. zero-mul K (w i j))) }

    pub span-add : {n : ℕ} {w : ℕ → J → F} {u v : J → F} → InSpan K n w u → InSpan K n w v → InSpan K n w (λ j. u j ⊕ v j)
    span-add {n} {w} s t = record {
      coef = λ i. s.coef i ⊕ t.coef i;
      eq = λ j. ap₂ ◌⊕◌ (s.eq j) (t.eq j) ∙ sym (total_ext K n (λ i l. add-mul K (s.coef i) (t.coef i) (w i j)) ∙ total-add K n _ _);
    }

    pub span-scale : {n : ℕ} {w : ℕ → J → F} {v : J → F} (x : F) → InSpan K n w v → InSpan K n w (λ j. x ⊗ v j)
    span-scale {n} {w} x s = record {
      coef = λ i. x ⊗ s.coef i;
      eq = λ j. ap (λ (y : F). x ⊗ y) (s.eq j) ∙ sym (total_ext K n (λ i l. mul_assoc x (s.coef i) (w i j)) ∙ total-mul K n x _);
    }

    pub span-eq : {n : ℕ} {w : ℕ → J → F} {u v : J → F} → ((j : J) → u j ≡ v j) → InSpan K n w v → InSpan K n w u
    span-eq e s = record { coef = s.coef; eq = λ j. e j ∙ s.eq j }

    pub span-trans : {n m : ℕ} {w u : ℕ → J → F} {v : J → F} → InSpan K n w v → Within K n w m u → InSpan K m u v
    span-trans {n} {m} {w} {u} {v} s h = go (coefs n h)
      where
        go : (P : ℕ → ℕ → F) × ((i : ℕ) → i < n → (j : J) → w i j ≡ lin K m (P i) u j) → InSpan K m u v
        go t = record {
          coef = λ k. total K n (λ i. s.coef i ⊗ t.0 i k);
          eq = λ j. s.eq j ∙ total_ext K n (λ i l. ap (λ (y : F). s.coef i ⊗ y) (t.1 i l j)) ∙ lin-lin n m s.coef t.0 u j;
        }

    pub within-trans : {n m k : ℕ} {w u v : ℕ → J → F} → Within K n w m u → Within K m u k v → Within K n w k v
    within-trans f g i h = span-trans (f i h) g

  -- the same combination, on some of the columns
  pub span-pull : {J J' : Type 0} (f : J' → J) {n : ℕ} {w : ℕ → J → F} {v : J → F} → InSpan K n w v
      → InSpan K n (λ i j. w i (f j)) (λ j. v (f j))
  span-pull f s = record { coef = s.coef; eq = λ j. s.eq (f j) }
