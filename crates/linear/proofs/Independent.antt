-- The most independent rows of a matrix: that there is such a number, that there is only one, and how it grows with the rows.
-- Assumes nothing.
use mathlib.Core.Path.{◌≡◌, sym, ap, ap₂, subst, ◌∙◌}
use mathlib.Core.Logic.{◌≢◌, ◌⊎◌, inl, inr, ◌↔◌}
use Prim.Native.Nat.{ℕ, zero, suc, ◌+◌, ◌≤◌, ◌<◌}
use native.Mathlib.Omega.{arith}
use native.Mathlib.Decide.{ℕ_discrete}
use Rattle.linear.specs.Field.{Field}
use Rattle.linear.specs.Index.{cons, ahead, Col, cut}
use Rattle.linear.specs.Total.{total, delta}
use Rattle.linear.specs.Span.{lin, InSpan, Within}
use Rattle.linear.specs.Independent.{Independent, Dependent, Choice, MostIndependent, Basis, RowOf, RowsOf}
use Rattle.linear.proofs.Field.{add-zero, zero-mul, add-mul, eq-of-add}
use Rattle.linear.proofs.Index.{ahead-first, ahead-then}
use Rattle.linear.proofs.Total.{total_ext, total-add, total-mul, delta-self, delta-other, total-delta}
use Rattle.linear.proofs.Span.{span-member, span-eq, span-trans, within-trans}
use Rattle.linear.proofs.Kernel.{Kernel, kernel, steinitz}

module _ (K : Field) where
  open K use {carrier as F, ◌⊕◌, ◌⊗◌, 𝟘, 𝟙, inv, zero-add, add-self, mul_comm, mul_assoc, one-mul, inv-mul, one-ne-zero}

  infixl 60 ◌⊕◌
  infixl 70 ◌⊗◌
  module _ {J : Type 0} where
    -- independent rows are chosen once each
    pub chosen-once : {M n : ℕ} {w : ℕ → J → F} (c : Choice K M n w) (i k : ℕ) → i < n → k < n → c.place i ≡ c.place k → i ≡ k
    chosen-once {M} {n} {w} c i k hi hk e = go (ℕ_discrete i k)
      where
        a : ℕ → F
        a x = delta K x i ⊕ delta K x k

        gone : (j : J) → lin K n a (λ x. w (c.place x)) j ≡ 𝟘
        gone j =
            total_ext K n (λ x l. add-mul K (delta K x i) (delta K x k) _ ∙ ap₂ ◌⊕◌ (mul_comm _ _) (mul_comm _ _))
            ∙ total-add K n _ _
            ∙ ap₂ ◌⊕◌ (total-delta K n i (λ x. w (c.place x) j) hi) (total-delta K n k (λ x. w (c.place x) j) hk ∙ ap (λ (x : ℕ). w x j) (sym e))
            ∙ add-self _

        go : Dec (i ≡ k) → i ≡ k
        go (yes p) = p
        go (no h) = absurd (one-ne-zero (sym (ap₂ ◌⊕◌ (delta-self K i) (delta-other K i k h) ∙ add-zero K 𝟙) ∙ c.free.only_zero a gone i hi))

    pub most-unique : {M r s : ℕ} {w : ℕ → J → F} → MostIndependent K M w r → MostIndependent K M w s → r ≡ s
    most-unique {M} {r} {s} {w} a b =
        let p : r ≤ s = b.most r a.some in
        let q : s ≤ r = a.most s b.some in
        omega arith

    pub most-of-basis : {M r : ℕ} {w : ℕ → J → F} → Basis K M r w → MostIndependent K M w r
    most-of-basis {M} {r} {w} b = record {
      some = b.choice;
      most = λ n c. steinitz K n r (λ k. w (c.place k)) (λ k. w (b.choice.place k)) c.free (λ k l. b.spans (c.place k) (c.below k l));
    }

    -- a vector that makes independent ones dependent is in their span
    head-in-span : (r : ℕ) (w : ℕ → J → F) → Independent K r (λ k. w (suc k)) → Dependent K (suc r) w → InSpan K r (λ k. w (suc k)) (w zero)
    unfolding total
    head-in-span r w ind d = record { coef = λ k. inv (d.coef zero) ⊗ d.coef (suc k); eq = row }
      where
        rest : J → F
        rest j = total K r (λ k. d.coef (suc k) ⊗ w (suc k) j)

        tail-zero : d.coef zero ≡ 𝟘 → (k : ℕ) → k < r → d.coef (suc k) ≡ 𝟘
        tail-zero e =
            ind.only_zero (λ k. d.coef (suc k))
            (λ j.
            sym (zero-add (rest j)) ∙ ap (λ (x : F). x ⊕ rest j) (sym (ap (λ (x : F). x ⊗ w zero j) e ∙ zero-mul K (w zero j)))
            ∙ d.vanishes j)

        clash : d.coef zero ≡ 𝟘 → (k : ℕ) → k < suc r → d.coef k ≡ 𝟘
        clash e zero h = e
        clash e (suc k) h = tail-zero e k (omega arith)

        nz : d.coef zero ≢ 𝟘
        nz e = d.other (clash e d.place d.below)

        row : (j : J) → w zero j ≡ total K r (λ k. inv (d.coef zero) ⊗ d.coef (suc k) ⊗ w (suc k) j)
        row j =
            sym (ap (λ (x : F). x ⊗ w zero j) (inv-mul (d.coef zero) nz) ∙ one-mul (w zero j))
            ∙ mul_assoc (inv (d.coef zero)) (d.coef zero) (w zero j)
            ∙ ap (λ (x : F). inv (d.coef zero) ⊗ x) (eq-of-add K _ _ (d.vanishes j))
            ∙ sym (total-mul K r (inv (d.coef zero)) (λ k. d.coef (suc k) ⊗ w (suc k) j))
            ∙ total_ext K r (λ k l. sym (mul_assoc (inv (d.coef zero)) (d.coef (suc k)) (w (suc k) j)))

  -- one more vector is in the span of independent ones, or all are independent
  pub grow : (L r : ℕ) (w : ℕ → ℕ → F) → Independent K r (λ k. cut L w (suc k))
      → InSpan K r (λ k. cut L w (suc k)) (cut L w zero) ⊎ Independent K (suc r) (cut L w)
  grow L r w ind = go (kernel K L (suc r) w)
    where
      go : Kernel K L (suc r) w → InSpan K r (λ k. cut L w (suc k)) (cut L w zero) ⊎ Independent K (suc r) (cut L w)
      go (inl d) = inl (head-in-span r (cut L w) ind d)
      go (inr t) = inr t.0

  -- the row before a matrix with a basis: it joins the basis, or is in its span already
  module _ (L M r : ℕ) (A : ℕ → ℕ → F) (b : Basis K M r (cut L (λ i. A (suc i)))) where
    after : ℕ → ℕ
    after k = suc (b.choice.place k)

    with-head : ℕ → ℕ
    with-head = cons zero after

    basis-step : InSpan K r (λ k. cut L A (after k)) (cut L A zero) ⊎ Independent K (suc r) (λ k. cut L A (with-head k))
        → (r : ℕ) × Basis K (suc M) r (cut L A)
    unfolding after with-head
    basis-step (inl s) = (
      r,
      record {
        choice = record { place = after; below = λ k h. (let q : b.choice.place k < M = b.choice.below k h in omega arith); free = b.choice.free };
        spans = spans';
      },
    )
      where
        spans' : Within K (suc M) (cut L A) r (λ k. cut L A (after k))
        spans' zero h = s
        spans' (suc i) h = b.spans i (omega arith)
    basis-step (inr ind) = (suc r, record { choice = record { place = with-head; below = below'; free = ind }; spans = spans' })
      where
        below' : (k : ℕ) → k < suc r → with-head k < suc M
        below' zero h = omega arith
        below' (suc k) h = let q : b.choice.place k < M = b.choice.below k (omega arith) in omega arith

        spans' : Within K (suc M) (cut L A) (suc r) (λ k. cut L A (with-head k))
        spans' zero h = span-member K (suc r) (λ k. cut L A (with-head k)) zero (omega arith)
        spans' (suc i) h = span-trans K (b.spans i (omega arith)) (λ k l. span-member K (suc r) (λ k. cut L A (with-head k)) (suc k) (omega arith))

  -- every matrix has a basis among its rows
  pub basis : (L M : ℕ) (A : ℕ → ℕ → F) → (r : ℕ) × Basis K M r (cut L A)
  unfolding after with-head
  basis L zero A = (
    zero,
    record {
      choice = record { place = λ _. zero; below = λ k h. absurd (omega arith); free = record { only_zero = λ a v i h. absurd (omega arith) } };
      spans = λ i h. absurd (omega arith);
    },
  )
  basis L (suc M) A = go (basis L M (λ i. A (suc i)))
    where
      go : (r : ℕ) × Basis K M r (cut L (λ i. A (suc i))) → (r : ℕ) × Basis K (suc M) r (cut L A)
      go t = basis-step L M t.0 A t.1 (grow L t.0 (λ k. A (with-head L M t.0 A t.1 k)) t.1.choice.free)

  pub rank : (L M : ℕ) (A : ℕ → ℕ → F) → (r : ℕ) × MostIndependent K M (cut L A) r
  rank L M A = ((basis L M A).0, most-of-basis (basis L M A).1)

  -- independent vectors that span what the rows span are as many as the most independent rows
  pub most-of-span : (L M n : ℕ) (A : ℕ → ℕ → F) (u : ℕ → Col L → F) → Independent K n u → Within K n u M (cut L A)
      → Within K M (cut L A) n u → MostIndependent K M (cut L A) n
  most-of-span L M n A u ind up down = go (basis L M A)
    where
      go : (r : ℕ) × Basis K M r (cut L A) → MostIndependent K M (cut L A) n
      go (r, b) = subst (MostIndependent K M (cut L A)) same (most-of-basis b)
        where
          chosen : ℕ → Col L → F
          chosen k = cut L A (b.choice.place k)

          same : r ≡ n
          same =
              let p : r ≤ n = steinitz K r n chosen u b.choice.free (λ k l. down (b.choice.place k) (b.choice.below k l)) in
              let q : n ≤ r = steinitz K n r u chosen ind (within-trans K up b.spans) in
              omega arith

  pub rows-within : {J : Type 0} {M N : ℕ} {w u : ℕ → J → F} → RowsOf K M w N u → Within K M w N u
  rows-within {N = N} {u = u} f i h = span-eq K (f i h).2 (span-member K N u (f i h).0 (f i h).1)

  -- independent vectors in the span of the rows are at most as many as the most independent rows
  pub most-in-span : (L M n r : ℕ) (A : ℕ → ℕ → F) (u : ℕ → Col L → F) → Independent K n u → Within K n u M (cut L A)
      → MostIndependent K M (cut L A) r → n ≤ r
  most-in-span L M n r A u ind h a = go (basis L M A)
    where
      go : (t : ℕ) × Basis K M t (cut L A) → n ≤ r
      go (t, c) =
          let e : t ≡ r = most-unique (most-of-basis c) a in
          let p : n ≤ t = steinitz K n t u (λ k. cut L A (c.choice.place k)) ind (within-trans K h c.spans) in
          omega arith

  -- more rows, no smaller number
  pub most-grows : (L M N r s : ℕ) (A B : ℕ → ℕ → F) → RowsOf K M (cut L A) N (cut L B) → MostIndependent K M (cut L A) r
      → MostIndependent K N (cut L B) s → r ≤ s
  most-grows L M N r s A B sub a b =
      most-in-span L N r s B (λ k. cut L A (a.some.place k)) a.some.free (λ k l. rows-within sub (a.some.place k) (a.some.below k l)) b

  -- the same rows, in any order and number: the same number
  pub most-same : (L M N r s : ℕ) (A B : ℕ → ℕ → F) → RowsOf K M (cut L A) N (cut L B) → RowsOf K N (cut L B) M (cut L A)
      → MostIndependent K M (cut L A) r → MostIndependent K N (cut L B) s → r ≡ s
  most-same L M N r s A B f g a b =
      let p : r ≤ s = most-grows L M N r s A B f a b in
      let q : s ≤ r = most-grows L N M s r B A g b a in
      omega arith

  -- n rows more raise the number by n at most
  pub most-more : (L M N n r s : ℕ) (A B v : ℕ → ℕ → F)
      → ((i : ℕ) → i < N → RowOf K (cut L B i) M (cut L A) ⊎ RowOf K (cut L B i) n (cut L v))
      → MostIndependent K M (cut L A) r → MostIndependent K N (cut L B) s → s ≤ n + r
  most-more L M N n r s A B v only a b = go (basis L M A)
    where
      go : (t : ℕ) × Basis K M t (cut L A) → s ≤ n + r
      go (t, base) =
          let e : t ≡ r = most-unique (most-of-basis base) a in
          let h : s ≤ n + t = steinitz K s (n + t) (λ k. cut L B (b.some.place k)) (cut L all) b.some.free
          (λ k l. inside (b.some.place k) (b.some.below k l)) in
          omega arith
        where
          chosen : ℕ → ℕ → F
          chosen k = A (base.choice.place k)

          all : ℕ → ℕ → F
          all = ahead n v chosen

          new_in : (k : ℕ) → k < n → InSpan K (n + t) (cut L all) (cut L v k)
          new_in k h = span-eq K (λ c. sym (ap (λ (w : ℕ → F). w c.0) (ahead-first n v chosen k h))) (span-member K (n + t) (cut L all) k (omega arith))

          old-in : (k : ℕ) → k < t → InSpan K (n + t) (cut L all) (cut L chosen k)
          old-in k h = span-eq K (λ c. sym (ap (λ (w : ℕ → F). w c.0) (ahead-then n v chosen k))) (span-member K (n + t) (cut L all) (n + k) (omega arith))

          inside : (i : ℕ) → i < N → InSpan K (n + t) (cut L all) (cut L B i)
          inside i h = which (only i h)
            where
              which : RowOf K (cut L B i) M (cut L A) ⊎ RowOf K (cut L B i) n (cut L v)
                  → InSpan K (n + t) (cut L all) (cut L B i)
              which (inl (k, l, e)) = span-eq K e (span-trans K (base.spans k l) old-in)
              which (inr (k, l, e)) = span-eq K e (new_in k l)

  -- n rows more leave the number exactly when each of them is a combination of the rows that were there
  module _ (L M N n r s : ℕ) (A B v : ℕ → ℕ → F) (old : RowsOf K M (cut L A) N (cut L B)) (new : RowsOf K n (cut L v) N (cut L B))
      (only : (i : ℕ) → i < N → RowOf K (cut L B i) M (cut L A) ⊎ RowOf K (cut L B i) n (cut L v))
      (a : MostIndependent K M (cut L A) r) (b : MostIndependent K N (cut L B) s) where
    -- one of them beside a basis: it is in the span, or the number has grown
    beside : (t : ℕ) → Basis K M t (cut L A) → (k : ℕ) → k < n → InSpan K M (cut L A) (cut L v k) ⊎ (t < s)
    beside t base k h = go (grow L t chosen base.choice.free)
      where
        chosen : ℕ → ℕ → F
        chosen = cons (v k) (λ i. A (base.choice.place i))

        inside : Within K (suc t) (cut L chosen) N (cut L B)
        inside zero l = rows-within new k h
        inside (suc i) l = rows-within old (base.choice.place i) (base.choice.below i (omega arith))

        go : InSpan K t (λ i. cut L chosen (suc i)) (cut L chosen zero) ⊎ Independent K (suc t) (cut L chosen) → InSpan K M (cut L A) (cut L v k) ⊎ (t < s)
        go (inl x) = inl (span-trans K x (λ i l. span-member K M (cut L A) (base.choice.place i) (base.choice.below i l)))
        go (inr ind) = inr (let p : suc t ≤ s = most-in-span L N (suc t) s B (cut L chosen) ind inside b in omega arith)

    stays_within : s ≡ r → Within K n (cut L v) M (cut L A)
    stays_within e k h = go (basis L M A)
      where
        go : (t : ℕ) × Basis K M t (cut L A) → InSpan K M (cut L A) (cut L v k)
        go (t, base) = which (beside t base k h)
          where
            which : InSpan K M (cut L A) (cut L v k) ⊎ (t < s) → InSpan K M (cut L A) (cut L v k)
            which (inl x) = x
            which (inr l) = absurd (let q : t ≡ r = most-unique (most-of-basis base) a in omega arith)

    within-stays : Within K n (cut L v) M (cut L A) → s ≡ r
    within-stays w =
        let f = b.some in
        let p : s ≤ r = most-in-span L M s r A (λ k. cut L B (f.place k)) f.free (λ k l. which (only (f.place k) (f.below k l))) a in
        let q : r ≤ s = most-grows L M N r s A B old a b in
        omega arith
      where
        which : {i : ℕ} → RowOf K (cut L B i) M (cut L A) ⊎ RowOf K (cut L B i) n (cut L v)
            → InSpan K M (cut L A) (cut L B i)
        which (inl (k, l, e)) = span-eq K e (span-member K M (cut L A) k l)
        which (inr (k, l, e)) = span-eq K e (w k l)

    pub most-stays : (s ≡ r) ↔ Within K n (cut L v) M (cut L A)
    most-stays = (stays_within, within-stays)
