-- Every system has one of the three answers: it is brought into reduced form, one pivot after the other.
-- Assumes nothing.
use mathlib.Core.Path.{◌≡◌, sym, ap, subst, ◌∙◌}
use mathlib.Core.Logic.{◌≢◌, ◌⊎◌, inl, inr}
use Prim.Native.Nat.{ℕ, zero, suc, ◌+◌, ◌-◌, ◌≤◌, ◌<◌}
use native.Mathlib.Omega.{arith}
use native.Mathlib.Decide.{ℕ_discrete, dec_lt, dec_le}
use Rattle.linear.specs.Field.{Field}
use Rattle.linear.specs.Index.{update, Col, cut}
use Rattle.linear.specs.Span.{SameSpan}
use Rattle.linear.specs.System.{System, equation, Shortfall, Answer, contradicted, settled, left_open}
use Rattle.linear.specs.RowOps.{Added, Scaled, Swapped}
use Rattle.linear.specs.Reduced.{Reduced, Partly}
use Rattle.linear.proofs.Field.{zero_or_not, zero-of-not-not}
use Rattle.linear.proofs.Index.{update_same, update_other, find}
use Rattle.linear.proofs.RowOps.{same-span-refl, same-span-trans, added-same, scaled-same, swapped_same, added-both, scaled-both, swapped-both}
use Rattle.linear.proofs.Reduced.{solution, rank-le, shortfall, contradiction, solved, two-fit}
use Rattle.linear.proofs.Partly.{partly_none, partly-reduced, partly-swap, partly-scale, partly-take}

module _ (K : Field) where
  open K use {carrier as F, ◌⊕◌, ◌⊗◌, 𝟘, 𝟙, inv, mul_comm, inv-mul}

  infixl 60 ◌⊕◌
  infixl 70 ◌⊗◌
  -- The row operations as functions.
  swap_rows : ℕ → ℕ → (ℕ → ℕ → F) → ℕ → ℕ → F
  swap_rows i k w = update i (w k) (update k (w i) w)

  scale_row : ℕ → F → (ℕ → ℕ → F) → ℕ → ℕ → F
  scale_row k x w = update k (λ c. x ⊗ w k c) w

  add_row : ℕ → (ℕ → F) → (ℕ → ℕ → F) → ℕ → ℕ → F
  add_row k f w = update k (w k) (λ i c. w i c ⊕ f i ⊗ w k c)

  swaps : (n i k : ℕ) → i < n → k < n → (L : ℕ) (w : ℕ → ℕ → F) → Swapped K n i k (cut L w) (cut L (swap_rows i k w))
  unfolding swap_rows
  swaps n i k hi hk L w = record {
    first_below = hi;
    second_below = hk;
    first = λ c. ap (λ (v : ℕ → F). v c.0) (update_same i (w k) (update k (w i) w));
    second = λ c. second' c (ℕ_discrete k i);
    others = λ m h n l c. ap (λ (v : ℕ → F). v c.0) (update_other i (w k) (update k (w i) w) m n ∙ update_other k (w i) w m l);
  }
    where
      second' : (c : Col L) → Dec (k ≡ i) → update i (w k) (update k (w i) w) k c.0 ≡ w i c.0
      second' c (yes e) =
          ap (λ (z : ℕ). update i (w k) (update k (w i) w) z c.0) e ∙ ap (λ (v : ℕ → F). v c.0) (update_same i (w k) (update k (w i) w))
          ∙ ap (λ (z : ℕ). w z c.0) e
      second' c (no n) = ap (λ (v : ℕ → F). v c.0) (update_other i (w k) (update k (w i) w) k n ∙ update_same k (w i) w)

  scales : (n k : ℕ) → k < n → (x y : F) → y ⊗ x ≡ 𝟙 → (L : ℕ) (w : ℕ → ℕ → F) → Scaled K n k x y (cut L w) (cut L (scale_row k x w))
  unfolding scale_row
  scales n k h x y e L w = record {
    row_below = h;
    undone = e;
    row = λ c. ap (λ (v : ℕ → F). v c.0) (update_same k (λ c. x ⊗ w k c) w);
    others = λ i l m c. ap (λ (v : ℕ → F). v c.0) (update_other k (λ c. x ⊗ w k c) w i m);
  }

  adds : (n k : ℕ) → k < n → (f : ℕ → F) (L : ℕ) (w : ℕ → ℕ → F) → Added K n k f (cut L w) (cut L (add_row k f w))
  unfolding add_row
  adds n k h f L w = record {
    row_below = h;
    row_kept = λ c. ap (λ (v : ℕ → F). v c.0) (update_same k (w k) (λ i c. w i c ⊕ f i ⊗ w k c));
    others = λ i l m c. ap (λ (v : ℕ → F). v c.0) (update_other k (w k) (λ i c. w i c ⊕ f i ⊗ w k c) i m);
  }

  -- M equations with these coefficients and bytes
  abbrev system : ℕ → (ℕ → ℕ → F) → (ℕ → ℕ → F) → System F
  system M A D = record { count = M; coef = A; byte = D }

  -- S on the way, with r pivots
  record State (L T : ℕ) (S : System F) (r : ℕ) : Type 0 where
    coef : ℕ → ℕ → F
    byte : ℕ → ℕ → F
    partly : Partly K L S.count coef r
    same : SameSpan K S.count (equation L T S) (equation L T (system S.count coef byte))

  -- S in reduced form
  record Form (L T : ℕ) (S : System F) : Type 0 where
    coef : ℕ → ℕ → F
    byte : ℕ → ℕ → F
    rank : ℕ
    reduced : Reduced K L S.count coef rank
    same : SameSpan K S.count (equation L T S) (equation L T (system S.count coef byte))

  module _ (L T : ℕ) (S : System F) where
    abbrev M : ℕ
    M = S.count

    -- row i goes to place r, is made 1 in column c, and is taken off the others
    take-pivot : {r : ℕ} (s : State L T S r) (i c : ℕ) → i < M → r ≤ i → c < L → s.coef i c ≢ 𝟘 → State L T S (suc r)
    take-pivot {r} s i c hi hr hc nz = record {
      coef = A₃;
      byte = D₃;
      partly = partly-take K partly₂ hc one (adds M r below factor L A₂);
      same =
          same-span-trans K s.same (same-span-trans K
          (swapped_same K (swapped-both K L T M (system M A D) (system M A₁ D₁) (swaps M r i below hi L A) (swaps M r i below hi T D)))
          (same-span-trans K
          (scaled-same K (scaled-both K L T M (system M A₁ D₁) (system M A₂ D₂)
          (scales M r below x (A₁ r c) undo L A₁) (scales M r below x (A₁ r c) undo T D₁)))
          (added-same K (added-both K L T M (system M A₂ D₂) (system M A₃ D₃) (adds M r below factor L A₂) (adds M r below factor T D₂)))));
    }
      where
        A : ℕ → ℕ → F
        A = s.coef

        D : ℕ → ℕ → F
        D = s.byte

        below : r < M
        below = omega arith

        A₁ : ℕ → ℕ → F
        A₁ = swap_rows r i A

        D₁ : ℕ → ℕ → F
        D₁ = swap_rows r i D

        lead : A₁ r c ≡ A i c
        lead = (swaps M r i below hi L A).first (c, hc)

        x : F
        x = inv (A₁ r c)

        nz₁ : A₁ r c ≢ 𝟘
        nz₁ e = nz (sym lead ∙ e)

        undo : A₁ r c ⊗ x ≡ 𝟙
        undo = mul_comm (A₁ r c) x ∙ inv-mul (A₁ r c) nz₁

        A₂ : ℕ → ℕ → F
        A₂ = scale_row r x A₁

        D₂ : ℕ → ℕ → F
        D₂ = scale_row r x D₁

        one : A₂ r c ≡ 𝟙
        one = (scales M r below x (A₁ r c) undo L A₁).row (c, hc) ∙ inv-mul (A₁ r c) nz₁

        partly₂ : Partly K L M A₂ r
        partly₂ = partly-scale K (partly-swap K s.partly hr (swaps M r i below hi L A)) (scales M r below x (A₁ r c) undo L A₁)

        factor : ℕ → F
        factor m = A₂ m c

        A₃ : ℕ → ℕ → F
        A₃ = add_row r factor A₂

        D₃ : ℕ → ℕ → F
        D₃ = add_row r factor D₂

    -- row i, from r on, is not 0 in some column
    abbrev Left : {r : ℕ} → State L T S r → ℕ → Type 0
    Left {r} s i = (r ≤ i) × ((c : ℕ) × (c < L) × (s.coef i c ≢ 𝟘))

    left? : {r : ℕ} (s : State L T S r) (i : ℕ) → Dec (r ≤ i)
        → ((c : ℕ) × (c < L) × (s.coef i c ≢ 𝟘)) ⊎ ((c : ℕ) → c < L → ¬ (s.coef i c ≢ 𝟘)) → Dec (Left s i)
    left? s i (yes a) (inl b) = yes (a, b)
    left? s i (yes a) (inr b) = no (λ p. b p.1.0 p.1.1 p.1.2)
    left? s i (no a) d = no (λ p. a p.0)

    form : {r : ℕ} (s : State L T S r) → ((i : ℕ) → r ≤ i → i < M → (c : ℕ) → c < L → s.coef i c ≡ 𝟘) → Form L T S
    form {r} s z = record { coef = s.coef; byte = s.byte; rank = r; reduced = partly-reduced K s.partly z; same = s.same }

    -- with n rows from r on
    reduce : (n r : ℕ) → n + r ≡ M → State L T S r → Form L T S
    reduce zero r e s = form s (λ i h l. absurd (omega arith))
    reduce (suc n) r e s =
        go (λ f. reduce n (suc r) (omega arith) f)
        (find (Left s) (λ i. left? s i (dec_le r i) (find (λ c. s.coef i c ≢ 𝟘) (λ c. zero_or_not K (s.coef i c)) L)) M)
      where
        go : (State L T S (suc r) → Form L T S) → ((i : ℕ) × (i < M) × Left s i) ⊎ ((i : ℕ) → i < M → ¬ Left s i) → Form L T S
        go further (inl (i, h, (a, (c, q, nz)))) = further (take-pivot s i c h a q nz)
        go further (inr none) = form s (λ i h l c q. zero-of-not-not K (s.coef i c) (λ nz. none i l (h, (c, q, nz))))

    reduced-form : Form L T S
    reduced-form =
        reduce M 0 (omega arith) (record { coef = S.coef; byte = S.byte; partly = partly_none K L M S.coef; same = same-span-refl K M (equation L T S) })

  -- Every system has one of the three answers.
  pub answer : (L T : ℕ) → 0 < T → (S : System F) → Answer K L T S
  answer L T pos S = go (reduced-form L T S)
    where
      go : Form L T S → Answer K L T S
      go s = look (find Bad (λ i. bad? i (dec_le r i) (find (λ t. D i t ≢ 𝟘) (λ t. zero_or_not K (D i t)) T)) S.count)
        where
          r : ℕ
          r = s.rank

          A : ℕ → ℕ → F
          A = s.coef

          D : ℕ → ℕ → F
          D = s.byte

          R : System F
          R = system S.count A D

          -- a row that is 0 and whose symbol is not
          Bad : ℕ → Type 0
          Bad i = (r ≤ i) × ((t : ℕ) × (t < T) × (D i t ≢ 𝟘))

          bad? : (i : ℕ) → Dec (r ≤ i) → ((t : ℕ) × (t < T) × (D i t ≢ 𝟘)) ⊎ ((t : ℕ) → t < T → ¬ (D i t ≢ 𝟘)) → Dec (Bad i)
          bad? i (yes a) (inl b) = yes (a, b)
          bad? i (yes a) (inr b) = no (λ p. b p.1.0 p.1.1 p.1.2)
          bad? i (no a) d = no (λ p. a p.0)

          look : ((i : ℕ) × (i < S.count) × Bad i) ⊎ ((i : ℕ) → i < S.count → ¬ Bad i) → Answer K L T S
          look (inl (i, h, (a, (t, q, n)))) = contradicted (contradiction K L T S R r s.reduced s.same.to s.same.back i a h t q n)
          look (inr none) = finish (dec_lt r L)
            where
              clean : (i : ℕ) → r ≤ i → i < S.count → (t : ℕ) → t < T → D i t ≡ 𝟘
              clean i h l t q = zero-of-not-not K (D i t) (λ n. none i l (h, (t, q, n)))

              short : Shortfall K L T S (L - r)
              short = shortfall K L T S R r s.reduced s.same.to s.same.back

              finish : Dec (r < L) → Answer K L T S
              finish (yes h) = left_open (L - r) (two-fit K L T S R r s.reduced s.same.to s.same.back clean h pos) short (omega arith)
              finish (no h) =
                  let b : r ≤ L = rank-le K L T R r s.reduced in
                  let e : r ≡ L = omega arith in
                  let z : L - r ≡ 0 = omega arith in
                  settled (solution K L T R r s.reduced) (solved K L T S R r s.reduced s.same.to s.same.back clean e) (subst (Shortfall K L T S) z short)
