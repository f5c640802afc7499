-- What a reduced form says of every system with the same consequences: which of the three answers it has, the set that solves it, and the
-- most independent rows.
-- Assumes nothing.
use mathlib.Core.Path.{◌≡◌, sym, ap, ap₂, ◌∙◌}
use mathlib.Core.Logic.{◌≢◌, ◌⊎◌, inl, inr}
use Prim.Native.Nat.{ℕ, zero, ◌-◌, ◌≤◌, ◌<◌}
use native.Mathlib.Omega.{arith}
use native.Mathlib.Decide.{ℕ_discrete, dec_lt}
use Rattle.linear.specs.Field.{Field}
use Rattle.linear.specs.Index.{Col, cut}
use Rattle.linear.specs.Total.{total, delta}
use Rattle.linear.specs.Span.{InSpan, Within}
use Rattle.linear.specs.Independent.{Independent, MostIndependent}
use Rattle.linear.specs.System.{System, Symbols, Same, equation, Fits, Follows, Solved, Contradiction, Open, Shortfall}
use Rattle.linear.specs.Reduced.{Reduced}
use Rattle.linear.proofs.Field.{add-zero, zero-mul, zero-of-fixed}
use Rattle.linear.proofs.Index.{find, choose}
use Rattle.linear.proofs.Total.{total_ext, total-vanish, total-add, delta-self, delta-other, delta-sym, delta-apart, total-delta}
use Rattle.linear.proofs.Span.{lin-lin, span-member, span-zero, span-trans, span-pull}
use Rattle.linear.proofs.Kernel.{pigeon, pigeon-more}
use Rattle.linear.proofs.Independent.{most-of-span}
use Rattle.linear.proofs.System.{fits-follows, contradiction-follows, clash}

module _ (K : Field) where
  open K use {carrier as F, ◌⊕◌, ◌⊗◌, 𝟘, 𝟙, add-self, mul_comm, mul-add, one-ne-zero}

  infixl 60 ◌⊕◌
  infixl 70 ◌⊗◌
  module _ (L T : ℕ) (R : System F) (r : ℕ) (red : Reduced K L R.count R.coef r) where
    open red use {pivot, pivot-below, unit, rest}

    -- the entries d k at the pivots, and 0 in the other columns
    spread-out : (ℕ → F) → ℕ → F
    spread-out d c = total K r (λ k. delta K c (pivot k) ⊗ d k)

    -- a row f times a set that is so made sees its entries at the pivots only
    row-times : (f d : ℕ → F) → total K L (λ c. f c ⊗ spread-out d c) ≡ total K r (λ k. f (pivot k) ⊗ d k)
    unfolding spread-out
    row-times f d =
        lin-lin K L r f (λ c k. delta K c (pivot k)) (λ k (_ : Unit {0}). d k) tt
        ∙ total_ext K r (λ k l. ap (λ (x : F). x ⊗ d k) (total-delta K L (pivot k) f (pivot-below k l)))

    pivot-row-times : (d : ℕ → F) (i : ℕ) → i < r → total K L (λ c. R.coef i c ⊗ spread-out d c) ≡ d i
    pivot-row-times d i h =
        row-times (R.coef i) d
        ∙ total_ext K r (λ k l. ap (λ (x : F). x ⊗ d k) (unit i k h l ∙ delta-sym K i k) ∙ mul_comm (delta K k i) (d k))
        ∙ total-delta K r i d h

    zero-row-times : (x : ℕ → F) (i : ℕ) → ¬ (i < r) → i < R.count → total K L (λ c. R.coef i c ⊗ x c) ≡ 𝟘
    zero-row-times x i h l = total-vanish K L (λ c b. ap (λ (y : F). y ⊗ x c) (rest i (omega arith) l c b) ∙ zero-mul K (x c))

    -- the set that has each pivot's symbol in its column, and 0 elsewhere
    pub solution : Symbols F
    solution c t = spread-out (λ k. R.byte k t) c

    pivot-once : (i k : ℕ) → i < r → k < r → pivot i ≡ pivot k → i ≡ k
    pivot-once i k hi hk e = go (ℕ_discrete i k)
      where
        go : Dec (i ≡ k) → i ≡ k
        go (yes p) = p
        go (no h) = absurd (one-ne-zero (sym (delta-self K i) ∙ sym (unit i i hi hi) ∙ ap (R.coef i) e ∙ unit i k hi hk ∙ delta-other K i k h))

    pub rank-le : r ≤ L
    rank-le = pigeon K r L pivot pivot-below pivot-once

    abbrev Free : ℕ → Type 0
    Free c = (k : ℕ) → k < r → pivot k ≢ c

    -- column c has a pivot or is free
    pivot-or-free : (c : ℕ) → ((k : ℕ) × (k < r) × (pivot k ≡ c)) ⊎ Free c
    pivot-or-free c = find (λ k. pivot k ≡ c) (λ k. ℕ_discrete (pivot k) c) r

    free-or-all : ((c : ℕ) × (c < L) × Free c) ⊎ ((c : ℕ) → c < L → (k : ℕ) × (k < r) × (pivot k ≡ c))
    free-or-all = go (find Free (λ c. decide c (pivot-or-free c)) L)
      where
        decide : (c : ℕ) → ((k : ℕ) × (k < r) × (pivot k ≡ c)) ⊎ Free c → Dec (Free c)
        decide c (inl t) = no (λ f. f t.0 t.1 t.2)
        decide c (inr f) = yes f

        found : (c : ℕ) → ¬ Free c → ((k : ℕ) × (k < r) × (pivot k ≡ c)) ⊎ Free c → (k : ℕ) × (k < r) × (pivot k ≡ c)
        found c h (inl t) = t
        found c h (inr f) = absurd (h f)

        go : ((c : ℕ) × (c < L) × Free c) ⊎ ((c : ℕ) → c < L → ¬ Free c)
            → ((c : ℕ) × (c < L) × Free c) ⊎ ((c : ℕ) → c < L → (k : ℕ) × (k < r) × (pivot k ≡ c))
        go (inl t) = inl t
        go (inr h) = inr (λ c l. found c (h c l) (pivot-or-free c))

    -- a free column leaves room for one more pivot
    free-lt : (c : ℕ) → c < L → Free c → r < L
    free-lt c l f = pigeon-more K r L c pivot pivot-below pivot-once l f

    all-le : ((c : ℕ) → c < L → (k : ℕ) × (k < r) × (pivot k ≡ c)) → L ≤ r
    all-le all = go (choose {Q = λ c k. (k < r) × (pivot k ≡ c)} L zero (λ c l. ((all c l).0, ((all c l).1, (all c l).2))))
      where
        go : (f : ℕ → ℕ) × ((c : ℕ) → c < L → (f c < r) × (pivot (f c) ≡ c)) → L ≤ r
        go (f, h) = pigeon K L r f (λ c l. (h c l).0) (λ i k hi hk e. sym (h i hi).1 ∙ ap pivot e ∙ (h k hk).1)

    -- Where every column has a pivot, each row is 1 at its own and 0 elsewhere: a set that fits is what the symbols say.
    module _ (all : (c : ℕ) → c < L → (k : ℕ) × (k < r) × (pivot k ≡ c)) where
      unit_row : (k c : ℕ) → k < r → c < L → R.coef k c ≡ delta K c (pivot k)
      unit_row k c h l = go (all c l)
        where
          go : (i : ℕ) × (i < r) × (pivot i ≡ c) → R.coef k c ≡ delta K c (pivot k)
          go (i, hi, e) =
              ap (R.coef k) (sym e) ∙ unit k i h hi ∙ sym (delta-apart K pivot i k (pivot-once i k hi h) ∙ delta-sym K i k)
              ∙ ap (λ (x : ℕ). delta K x (pivot k)) e

      forced : (D : Symbols F) → Fits K L T R D → (k : ℕ) → k < r → (t : ℕ) → t < T → D (pivot k) t ≡ R.byte k t
      forced D f k h t q =
          sym (total_ext K L (λ c l. ap (λ (x : F). x ⊗ D c t) (unit_row k c h l) ∙ mul_comm (delta K c (pivot k)) (D c t))
          ∙ total-delta K L (pivot k) (λ c. D c t) (pivot-below k h))
          ∙ f.meets k (let e : r ≤ R.count = red.enough in omega arith) t q

      pub fits-once : (C D : Symbols F) → Fits K L T R C → Fits K L T R D → Same L T C D
      fits-once C D f g = record { at = λ c l t q. go c t q (all c l) }
        where
          go : (c t : ℕ) → t < T → (k : ℕ) × (k < r) × (pivot k ≡ c) → C c t ≡ D c t
          go c t q (k, h, e) = ap (λ (x : ℕ). C x t) (sym e) ∙ forced C f k h t q ∙ sym (forced D g k h t q) ∙ ap (λ (x : ℕ). D x t) e

    -- Where column c is free, the set that has 1 there and what the rows ask for at the pivots meets every row with a 0.
    module _ (c : ℕ) (l : c < L) (free : Free c) where
      null : ℕ → F
      null x = delta K x c ⊕ spread-out (λ k. R.coef k c) x

      null-row : (i : ℕ) → i < R.count → Dec (i < r) → total K L (λ x. R.coef i x ⊗ null x) ≡ 𝟘
      unfolding null
      null-row i h (no n) = zero-row-times null i n h
      null-row i h (yes p) =
          total_ext K L (λ x b. mul-add (R.coef i x) (delta K x c) (spread-out (λ k. R.coef k c) x))
          ∙ total-add K L (λ x. R.coef i x ⊗ delta K x c) (λ x. R.coef i x ⊗ spread-out (λ k. R.coef k c) x)
          ∙ ap₂ ◌⊕◌ (total-delta K L c (R.coef i) l) (pivot-row-times (λ k. R.coef k c) i p)
          ∙ add-self (R.coef i c)

      null-at : null c ≡ 𝟙
      unfolding null spread-out
      null-at =
          ap₂ ◌⊕◌ (delta-self K c)
          (total-vanish K r (λ k h. ap (λ (x : F). x ⊗ R.coef k c) (delta-other K c (pivot k) (λ e. free k h (sym e))) ∙ zero-mul K (R.coef k c)))
          ∙ add-zero K 𝟙

      pub open-of-free : (C : Symbols F) → Fits K L T R C → 0 < T → Open K L T R
      open-of-free C f pos = record {
        first = C;
        second = λ x t. C x t ⊕ null x;
        first_fits = f;
        second_fits = record { meets = λ i h t q. meets' i h t q };
        differ = λ s. one-ne-zero (sym null-at ∙ zero-of-fixed K (C c 0) (null c) (s.at c l 0 pos));
      }
        where
          meets' : (i : ℕ) → i < R.count → (t : ℕ) → t < T → total K L (λ x. R.coef i x ⊗ (C x t ⊕ null x)) ≡ R.byte i t
          meets' i h t q =
              total_ext K L (λ x b. mul-add (R.coef i x) (C x t) (null x))
              ∙ total-add K L (λ x. R.coef i x ⊗ C x t) (λ x. R.coef i x ⊗ null x)
              ∙ ap₂ ◌⊕◌ (f.meets i h t q) (null-row i h (dec_lt i r))
              ∙ add-zero K (R.byte i t)

    module _ (clean : (i : ℕ) → r ≤ i → i < R.count → (t : ℕ) → t < T → R.byte i t ≡ 𝟘) where
      pub solution-fits : Fits K L T R solution
      unfolding solution
      solution-fits = record { meets = λ i l t q. go i l t q (dec_lt i r) }
        where
          go : (i : ℕ) → i < R.count → (t : ℕ) → t < T → Dec (i < r)
              → total K L (λ c. R.coef i c ⊗ spread-out (λ k. R.byte k t) c) ≡ R.byte i t
          go i l t q (yes h) = pivot-row-times (λ k. R.byte k t) i h
          go i l t q (no h) = zero-row-times (spread-out (λ k. R.byte k t)) i h l ∙ sym (clean i (omega arith) l t q)

    pivot-rows-free : Independent K r (cut L R.coef)
    pivot-rows-free = record {
      only_zero = λ a v k h. sym (total_ext K r (λ i l. ap (λ (x : F). a i ⊗ x) (unit i k l h)) ∙ total-delta K r k a h) ∙ v (pivot k, pivot-below k h);
    }

  -- What a reduced form R of S says of S: each system follows from the other.
  module _ (L T : ℕ) (S R : System F) (r : ℕ) (red : Reduced K L R.count R.coef r) (to : Follows K L T S R) (back : Follows K L T R S) where
    pub most-independent : MostIndependent K S.count (cut L S.coef) r
    unfolding equation
    most-independent = most-of-span K L S.count r S.coef (cut L R.coef) (pivot-rows-free L T R r red) up down
      where
        up : Within K r (cut L R.coef) S.count (cut L S.coef)
        up i h = span-pull K (λ (c : Col L). inl c) (to i (let e : r ≤ R.count = red.enough in omega arith))

        drop-rest : (i : ℕ) → i < R.count → Dec (i < r) → InSpan K r (cut L R.coef) (cut L R.coef i)
        drop-rest i h (yes l) = span-member K r (cut L R.coef) i l
        drop-rest i h (no n) = span-zero K r (cut L R.coef) (λ c. red.rest i (omega arith) h c.0 c.1)

        down : Within K S.count (cut L S.coef) r (cut L R.coef)
        down i h = span-trans K (span-pull K (λ (c : Col L). inl c) (back i h)) (λ k l. drop-rest k l (dec_lt k r))

    pub shortfall : Shortfall K L T S (L - r)
    shortfall = record { rank = r; most = most-independent; less = (let h : r ≤ L = rank-le L T R r red in omega arith) }

    pub contradiction : (i : ℕ) → r ≤ i → i < R.count → (t : ℕ) → t < T → R.byte i t ≢ 𝟘 → Contradiction K L T S
    contradiction i h l t q nz = contradiction-follows K L T to (clash K L T i t l q (red.rest i h l) nz)

    module _ (clean : (i : ℕ) → r ≤ i → i < R.count → (t : ℕ) → t < T → R.byte i t ≡ 𝟘) where
      fits : Fits K L T S (solution L T R r red)
      fits = fits-follows K L T back (solution-fits L T R r red clean)

      pub solved : r ≡ L → Solved K L T S (solution L T R r red)
      solved e = record { fits = fits; only = λ D f. go D f (free-or-all L T R r red) }
        where
          go : (D : Symbols F) → Fits K L T S D
              → ((c : ℕ) × (c < L) × Free L T R r red c) ⊎ ((c : ℕ) → c < L → (k : ℕ) × (k < r) × (red.pivot k ≡ c))
              → Same L T D (solution L T R r red)
          go D f (inl (c, l, free)) = absurd (let h : r < L = free-lt L T R r red c l free in omega arith)
          go D f (inr all) = fits-once L T R r red all D (solution L T R r red) (fits-follows K L T to f) (solution-fits L T R r red clean)

      pub two-fit : r < L → 0 < T → Open K L T S
      two-fit h pos = go (free-or-all L T R r red)
        where
          back-again : Open K L T R → Open K L T S
          back-again o = record {
            first = o.first;
            second = o.second;
            first_fits = fits-follows K L T back o.first_fits;
            second_fits = fits-follows K L T back o.second_fits;
            differ = o.differ;
          }

          go : ((c : ℕ) × (c < L) × Free L T R r red c) ⊎ ((c : ℕ) → c < L → (k : ℕ) × (k < r) × (red.pivot k ≡ c)) → Open K L T S
          go (inl (c, l, free)) = back-again (open-of-free L T R r red c l free (solution L T R r red) (solution-fits L T R r red clean) pos)
          go (inr all) = absurd (let q : L ≤ r = all-le L T R r red all in omega arith)
