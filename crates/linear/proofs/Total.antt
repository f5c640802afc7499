-- Sums over a field: equal terms, vanishing terms, sums of sums, factors, the term at a place; and deltas.
-- Assumes nothing.
use mathlib.Core.Path.{◌≡◌, refl, sym, ap, ap₂, ◌∙◌}
use mathlib.Core.Logic.{◌≢◌}
use Prim.Native.Nat.{ℕ, zero, suc, ◌<◌}
use native.Mathlib.Omega.{arith}
use native.Mathlib.Decide.{ℕ_discrete}
use Rattle.linear.specs.Field.{Field}
use Rattle.linear.specs.Index.{skip}
use Rattle.linear.specs.Total.{total, delta}
use Rattle.linear.proofs.Field.{add-zero, add_left_comm, mul-zero, mul-one, add-four}

module _ (K : Field) where
  open K use {carrier as F, ◌⊕◌, ◌⊗◌, 𝟘, 𝟙, zero-add, mul_comm, mul-add}

  infixl 60 ◌⊕◌
  infixl 70 ◌⊗◌
  pub total_ext : (n : ℕ) {f g : ℕ → F} → ((i : ℕ) → i < n → f i ≡ g i) → total K n f ≡ total K n g
  unfolding total
  total_ext zero h = refl
  total_ext (suc n) h = ap₂ ◌⊕◌ (h zero (omega arith)) (total_ext n (λ i l. h (suc i) (omega arith)))

  pub total-vanish : (n : ℕ) {f : ℕ → F} → ((i : ℕ) → i < n → f i ≡ 𝟘) → total K n f ≡ 𝟘
  unfolding total
  total-vanish zero h = refl
  total-vanish (suc n) h = ap₂ ◌⊕◌ (h zero (omega arith)) (total-vanish n (λ i l. h (suc i) (omega arith))) ∙ zero-add 𝟘

  pub total-add : (n : ℕ) (f g : ℕ → F) → total K n (λ i. f i ⊕ g i) ≡ total K n f ⊕ total K n g
  unfolding total
  total-add zero f g = sym (zero-add 𝟘)
  total-add (suc n) f g = ap (λ (x : F). (f zero ⊕ g zero) ⊕ x) (total-add n (λ i. f (suc i)) (λ i. g (suc i))) ∙ add-four K _ _ _ _

  pub total-mul : (n : ℕ) (a : F) (f : ℕ → F) → total K n (λ i. a ⊗ f i) ≡ a ⊗ total K n f
  unfolding total
  total-mul zero a f = sym (mul-zero K a)
  total-mul (suc n) a f = ap (λ (x : F). a ⊗ f zero ⊕ x) (total-mul n a (λ i. f (suc i))) ∙ sym (mul-add a _ _)

  pub total-mul-right : (n : ℕ) (f : ℕ → F) (a : F) → total K n (λ i. f i ⊗ a) ≡ total K n f ⊗ a
  total-mul-right n f a = total_ext n (λ i l. mul_comm (f i) a) ∙ total-mul n a f ∙ mul_comm a (total K n f)

  pub total-swap : (n m : ℕ) (f : ℕ → ℕ → F) → total K n (λ i. total K m (λ j. f i j)) ≡ total K m (λ j. total K n (λ i. f i j))
  unfolding total
  total-swap zero m f = sym (total-vanish m (λ j l. refl))
  total-swap (suc n) m f =
      ap (λ (x : F). total K m (f zero) ⊕ x) (total-swap n m (λ i. f (suc i))) ∙ sym (total-add m (f zero) (λ j. total K n (λ i. f (suc i) j)))

  -- the term at p, and the others
  pub total-skip : (n p : ℕ) (f : ℕ → F) → p < suc n → total K (suc n) f ≡ f p ⊕ total K n (λ i. f (skip p i))
  unfolding total
  total-skip n zero f h = refl
  total-skip zero (suc p) f h = absurd (omega arith)
  total-skip (suc n) (suc p) f h = ap (λ (x : F). f zero ⊕ x) (total-skip n p (λ i. f (suc i)) (omega arith)) ∙ add_left_comm K _ _ _

  pub delta-self : (i : ℕ) → delta K i i ≡ 𝟙
  unfolding delta
  delta-self zero = refl
  delta-self (suc i) = delta-self i

  pub delta-other : (i j : ℕ) → i ≢ j → delta K i j ≡ 𝟘
  unfolding delta
  delta-other zero zero h = absurd (h refl)
  delta-other zero (suc j) h = refl
  delta-other (suc i) zero h = refl
  delta-other (suc i) (suc j) h = delta-other i j (λ e. h (ap suc e))

  pub delta-sym : (i j : ℕ) → delta K i j ≡ delta K j i
  unfolding delta
  delta-sym zero zero = refl
  delta-sym zero (suc j) = refl
  delta-sym (suc i) zero = refl
  delta-sym (suc i) (suc j) = delta-sym i j

  -- numbers that differ have the deltas of their places
  pub delta-apart : (q : ℕ → ℕ) (i k : ℕ) → (q i ≡ q k → i ≡ k) → delta K (q i) (q k) ≡ delta K i k
  delta-apart q i k once = go (ℕ_discrete i k)
    where
      go : Dec (i ≡ k) → delta K (q i) (q k) ≡ delta K i k
      go (yes e) = ap (λ (x : ℕ). delta K (q x) (q k)) e ∙ delta-self (q k) ∙ sym (ap (λ (x : ℕ). delta K x k) e ∙ delta-self k)
      go (no h) = delta-other (q i) (q k) (λ e. h (once e)) ∙ sym (delta-other i k h)

  pub total-delta : (n p : ℕ) (f : ℕ → F) → p < n → total K n (λ i. f i ⊗ delta K i p) ≡ f p
  unfolding total delta
  total-delta zero p f h = absurd (omega arith)
  total-delta (suc n) zero f h = ap₂ ◌⊕◌ (mul-one K (f zero)) (total-vanish n (λ i l. mul-zero K (f (suc i)))) ∙ add-zero K (f zero)
  total-delta (suc n) (suc p) f h = ap₂ ◌⊕◌ (mul-zero K (f zero)) (total-delta n p (λ i. f (suc i)) (omega arith)) ∙ zero-add (f (suc p))
