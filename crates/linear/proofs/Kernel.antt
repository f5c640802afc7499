-- The one fact that all dimension counting rests on: n vectors of L columns are dependent, or they are independent and n ≤ L.
-- Assumes nothing.
use mathlib.Core.Path.{◌≡◌, refl, sym, ap, ◌∙◌}
use mathlib.Core.Logic.{◌≢◌, ◌⊎◌, inl, inr}
use Prim.Native.Nat.{ℕ, zero, suc, ◌≤◌, ◌<◌}
use native.Mathlib.Omega.{arith}
use Rattle.linear.specs.Field.{Field}
use Rattle.linear.specs.Index.{cons, put, skip, Col, cut}
use Rattle.linear.specs.Total.{total, delta}
use Rattle.linear.specs.Span.{lin, Within}
use Rattle.linear.specs.Independent.{Independent, Dependent}
use Rattle.linear.proofs.Field.{mul-zero, zero-mul, eq-of-add, mul_inv_cancel, mul-cancel-inv, zero_or_not, zero-of-not-not}
use Rattle.linear.proofs.Index.{put-at, put-skip, skip-lt, skip-cases, find}
use Rattle.linear.proofs.Total.{total_ext, total-vanish, total-add, total-mul-right, total-skip, delta-sym, delta-apart, total-delta}
use Rattle.linear.proofs.Span.{lin-lin, coefs}

module _ (K : Field) where
  open K use {carrier as F, ◌⊕◌, ◌⊗◌, 𝟘, 𝟙, inv, add_comm, add-self, mul_assoc, mul-add, one-ne-zero}

  infixl 60 ◌⊕◌
  infixl 70 ◌⊗◌
  -- found by elimination: it decides independence, and hands over a vanishing combination where there is one
  abbrev pub Kernel : ℕ → ℕ → (ℕ → ℕ → F) → Type 0
  Kernel L n w = Dependent K n (cut L w) ⊎ (Independent K n (cut L w) × (n ≤ L))

  -- the first column is 0 in all
  kernel-none : (L n : ℕ) (w : ℕ → ℕ → F) → ((i : ℕ) → i < n → w i zero ≡ 𝟘) → Kernel L n (λ i c. w i (suc c)) → Kernel (suc L) n w
  kernel-none L n w z (inl d) =
      inl (record { coef = d.coef; vanishes = λ c. van c.0 c.1; place = d.place; below = d.below; other = d.other })
    where
      van : (c : ℕ) → c < suc L → total K n (λ i. d.coef i ⊗ w i c) ≡ 𝟘
      van zero h = total-vanish K n (λ i l. ap (λ (x : F). d.coef i ⊗ x) (z i l) ∙ mul-zero K (d.coef i))
      van (suc c) h = d.vanishes (c, omega arith)
  kernel-none L n w z (inr t) =
      inr (record { only_zero = λ a v. t.0.only_zero a (λ c. v (suc c.0, omega arith)) }, omega arith)

  -- s copies of a pivot x, spread over the rows that it is taken off
  spread : (n : ℕ) (b m y : ℕ → F) (x : F)
      → total K n (λ i. b i ⊗ m i) ⊗ x ⊕ total K n (λ i. b i ⊗ y i) ≡ total K n (λ i. b i ⊗ (y i ⊕ m i ⊗ x))
  spread n b m y x =
      add_comm _ _
      ∙ ap (λ (s : F). total K n (λ i. b i ⊗ y i) ⊕ s) (sym (total-mul-right K n (λ i. b i ⊗ m i) x))
      ∙ sym (total-add K n (λ i. b i ⊗ y i) (λ i. b i ⊗ m i ⊗ x))
      ∙ total_ext K n (λ i l. ap (λ (s : F). b i ⊗ y i ⊕ s) (mul_assoc (b i) (m i) x) ∙ sym (mul-add (b i) (y i) (m i ⊗ x)))

  -- the first column is not 0 in row p, which is taken off the others
  module _ (L n : ℕ) (w : ℕ → ℕ → F) (p : ℕ) (hp : p < suc n) (nz : w p zero ≢ 𝟘) where
    factor : ℕ → F
    factor j = w (skip p j) zero ⊗ inv (w p zero)

    cleared : ℕ → ℕ → F
    cleared j c = w (skip p j) c ⊕ factor j ⊗ w p c

    cleared-zero : (j : ℕ) → cleared j zero ≡ 𝟘
    unfolding cleared factor
    cleared-zero j = ap (λ (x : F). w (skip p j) zero ⊕ x) (mul_inv_cancel K (w (skip p j) zero) (w p zero) nz) ∙ add-self _

    -- a combination of all rows whose coefficient at p is the one that the others ask for
    whole : (a : ℕ → F) (c : ℕ) → a p ≡ total K n (λ j. a (skip p j) ⊗ factor j)
        → total K (suc n) (λ i. a i ⊗ w i c) ≡ total K n (λ j. a (skip p j) ⊗ cleared j c)
    unfolding cleared
    whole a c e =
        total-skip K n p (λ i. a i ⊗ w i c) hp
        ∙ ap (λ (x : F). x ⊗ w p c ⊕ total K n (λ j. a (skip p j) ⊗ w (skip p j) c)) e
        ∙ spread n (λ j. a (skip p j)) factor (λ j. w (skip p j) c) (w p c)

    -- where a combination vanishes in the first column, its coefficient at p is that one
    forced : (a : ℕ → F) → total K (suc n) (λ i. a i ⊗ w i zero) ≡ 𝟘 → a p ≡ total K n (λ j. a (skip p j) ⊗ factor j)
    unfolding factor
    forced a v =
        sym (mul-cancel-inv K (a p) (w p zero) nz)
        ∙ ap (λ (x : F). x ⊗ inv (w p zero)) (eq-of-add K _ _ (sym (total-skip K n p (λ i. a i ⊗ w i zero) hp) ∙ v))
        ∙ sym (total-mul-right K n (λ j. a (skip p j) ⊗ w (skip p j) zero) (inv (w p zero)))
        ∙ total_ext K n (λ j l. mul_assoc (a (skip p j)) (w (skip p j) zero) (inv (w p zero)))

    kernel-pivot : Kernel L n (λ j c. cleared j (suc c)) → Kernel (suc L) (suc n) w
    kernel-pivot (inl d) = inl (record {
      coef = a;
      vanishes = λ c. whole a c.0 ahead ∙ van c.0 c.1;
      place = skip p d.place;
      below = skip-lt p d.place n d.below;
      other = λ e. d.other (sym (put-skip p top d.coef d.place) ∙ e);
    })
      where
        top : F
        top = total K n (λ j. d.coef j ⊗ factor j)

        a : ℕ → F
        a = put p top d.coef

        ahead : a p ≡ total K n (λ j. a (skip p j) ⊗ factor j)
        ahead = put-at p top d.coef ∙ total_ext K n (λ j l. ap (λ (x : F). x ⊗ factor j) (sym (put-skip p top d.coef j)))

        van : (c : ℕ) → c < suc L → total K n (λ j. a (skip p j) ⊗ cleared j c) ≡ 𝟘
        van zero h = total-vanish K n (λ j l. ap (λ (x : F). a (skip p j) ⊗ x) (cleared-zero j) ∙ mul-zero K _)
        van (suc c) h = total_ext K n (λ j l. ap (λ (x : F). x ⊗ cleared j (suc c)) (put-skip p top d.coef j)) ∙ d.vanishes (c, omega arith)
    kernel-pivot (inr t) = inr (record { only_zero = zeros }, omega arith)
      where
        module-zero : (a : ℕ → F) → ((c : Col (suc L)) → total K (suc n) (λ i. a i ⊗ w i c.0) ≡ 𝟘) → (j : ℕ) → j < n → a (skip p j) ≡ 𝟘
        module-zero a v = t.0.only_zero (λ j. a (skip p j)) (λ c. sym (whole a (suc c.0) (forced a (v (zero, omega arith)))) ∙ v (suc c.0, omega arith))

        zeros : (a : ℕ → F) → ((c : Col (suc L)) → total K (suc n) (λ i. a i ⊗ w i c.0) ≡ 𝟘) → (k : ℕ) → k < suc n → a k ≡ 𝟘
        zeros a v k h = go (skip-cases n p k hp h)
          where
            go : (k ≡ p) ⊎ ((i : ℕ) × (i < n) × (skip p i ≡ k)) → a k ≡ 𝟘
            go (inl e) = ap a e ∙ forced a (v (zero, omega arith)) ∙ total-vanish K n (λ j l. ap (λ (x : F). x ⊗ factor j) (module-zero a v j l) ∙ zero-mul K _)
            go (inr r) = ap a (sym r.2) ∙ module-zero a v r.0 r.1

  pub kernel : (L n : ℕ) (w : ℕ → ℕ → F) → Kernel L n w
  kernel zero zero w = inr (record { only_zero = λ a v i h. absurd (omega arith) }, omega arith)
  kernel zero (suc n) w =
      inl (record { coef = λ _. 𝟙; vanishes = λ c. absurd (let h : c.0 < zero = c.1 in omega arith); place = zero; below = omega arith; other = one-ne-zero })
  kernel (suc L) zero w = inr (record { only_zero = λ a v i h. absurd (omega arith) }, omega arith)
  kernel (suc L) (suc n) w = go (λ u m. kernel L m u) (find (λ i. w i zero ≢ 𝟘) (λ i. zero_or_not K (w i zero)) (suc n))
    where
      go : ((u : ℕ → ℕ → F) (m : ℕ) → Kernel L m u) → ((i : ℕ) × (i < suc n) × (w i zero ≢ 𝟘)) ⊎ ((i : ℕ) → i < suc n → ¬ (w i zero ≢ 𝟘))
          → Kernel (suc L) (suc n) w
      go rec (inl t) = kernel-pivot L n w t.0 t.1 t.2 (rec (λ j c. cleared L n w t.0 t.1 t.2 j (suc c)) n)
      go rec (inr z) = kernel-none L (suc n) w (λ i l. zero-of-not-not K (w i zero) (z i l)) (rec (λ i c. w i (suc c)) (suc n))

  -- Steinitz: independent vectors in the span of m vectors are at most m
  pub steinitz : {J : Type 0} (n m : ℕ) (w u : ℕ → J → F) → Independent K n w → Within K n w m u → n ≤ m
  steinitz {J} n m w u ind h = go (coefs K n h)
    where
      go : (P : ℕ → ℕ → F) × ((i : ℕ) → i < n → (j : J) → w i j ≡ lin K m (P i) u j) → n ≤ m
      go t = use-kernel (kernel m n t.0)
        where
          use-kernel : Kernel m n t.0 → n ≤ m
          use-kernel (inr r) = r.1
          use-kernel (inl d) = absurd (d.other (ind.only_zero d.coef vanish d.place d.below))
            where
              vanish : (j : J) → lin K n d.coef w j ≡ 𝟘
              vanish j =
                  total_ext K n (λ i l. ap (λ (x : F). d.coef i ⊗ x) (t.1 i l j))
                  ∙ lin-lin K n m d.coef t.0 u j
                  ∙ total-vanish K m (λ k l. ap (λ (x : F). x ⊗ u k j) (d.vanishes (k, l)) ∙ zero-mul K (u k j))

  -- different numbers below L are at most L
  pub pigeon : (n L : ℕ) (q : ℕ → ℕ) → ((k : ℕ) → k < n → q k < L) → ((i k : ℕ) → i < n → k < n → q i ≡ q k → i ≡ k) → n ≤ L
  pigeon n L q below once = go (kernel L n (λ i c. delta K c (q i)))
    where
      same : (i k : ℕ) → i < n → k < n → delta K (q k) (q i) ≡ delta K i k
      same i k hi hk = delta-apart K q k i (once k i hk hi) ∙ delta-sym K k i

      go : Kernel L n (λ i c. delta K c (q i)) → n ≤ L
      go (inr t) = t.1
      go (inl d) =
          absurd (d.other
          (sym (total_ext K n (λ i l. ap (λ (x : F). d.coef i ⊗ x) (same i d.place l d.below)) ∙ total-delta K n d.place d.coef d.below)
          ∙ d.vanishes (q d.place, below d.place d.below)))

  -- and fewer, if there is another one
  pub pigeon-more : (n L c : ℕ) (q : ℕ → ℕ) → ((k : ℕ) → k < n → q k < L) → ((i k : ℕ) → i < n → k < n → q i ≡ q k → i ≡ k)
      → c < L → ((k : ℕ) → k < n → q k ≢ c) → n < L
  pigeon-more n L c q below once l other = pigeon (suc n) L (cons c q) below' once'
    where
      below' : (k : ℕ) → k < suc n → cons c q k < L
      below' zero h = l
      below' (suc k) h = below k (omega arith)

      once' : (i k : ℕ) → i < suc n → k < suc n → cons c q i ≡ cons c q k → i ≡ k
      once' zero zero hi hk e = refl
      once' zero (suc k) hi hk e = absurd (other k (omega arith) (sym e))
      once' (suc i) zero hi hk e = absurd (other i (omega arith) e)
      once' (suc i) (suc k) hi hk e = ap suc (once i k (omega arith) (omega arith) e)
