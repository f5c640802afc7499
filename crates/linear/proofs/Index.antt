-- Families indexed by numbers: what is where, and bounded search.
-- Assumes nothing.
use mathlib.Core.Path.{◌≡◌, refl, ap, ◌∙◌}
use mathlib.Core.Logic.{◌≢◌, ◌⊎◌, inl, inr}
use Prim.Native.Nat.{ℕ, zero, suc, ◌+◌, ◌<◌}
use native.Mathlib.Nat.{zero-add, suc-add}
use native.Mathlib.Omega.{arith}
use Rattle.linear.specs.Index.{cons, put, update, ahead, skip}

module _ {A : Type 0} where
  pub put-at : (p : ℕ) (x : A) (f : ℕ → A) → put p x f p ≡ x
  put-at zero x f = refl
  put-at (suc p) x f = put-at p x (λ j. f (suc j))

  pub update_same : (p : ℕ) (x : A) (f : ℕ → A) → update p x f p ≡ x
  update_same zero x f = refl
  update_same (suc p) x f = update_same p x (λ j. f (suc j))

  pub update_other : (p : ℕ) (x : A) (f : ℕ → A) (i : ℕ) → i ≢ p → update p x f i ≡ f i
  update_other zero x f zero h = absurd (h refl)
  update_other zero x f (suc i) h = refl
  update_other (suc p) x f zero h = refl
  update_other (suc p) x f (suc i) h = update_other p x (λ j. f (suc j)) i (λ e. h (ap suc e))

pub ahead-first : {A : Type 0} (n : ℕ) (f g : ℕ → A) (i : ℕ) → i < n → ahead n f g i ≡ f i
ahead-first zero f g i h = absurd (omega arith)
ahead-first (suc n) f g zero h = refl
ahead-first (suc n) f g (suc i) h = ahead-first n (λ j. f (suc j)) g i (omega arith)

pub ahead-then : {A : Type 0} (n : ℕ) (f g : ℕ → A) (i : ℕ) → ahead n f g (n + i) ≡ g i
ahead-then zero f g i = ap g (zero-add i)
ahead-then (suc n) f g i = ap (ahead (suc n) f g) (suc-add n i) ∙ ahead-then n (λ j. f (suc j)) g i

pub put-skip : {A : Type 0} (p : ℕ) (x : A) (f : ℕ → A) (i : ℕ) → put p x f (skip p i) ≡ f i
put-skip zero x f i = refl
put-skip (suc p) x f zero = refl
put-skip (suc p) x f (suc i) = put-skip p x (λ j. f (suc j)) i

pub skip-lt : (p i n : ℕ) → i < n → skip p i < suc n
skip-lt zero i n h = omega arith
skip-lt (suc p) zero n h = omega arith
skip-lt (suc p) (suc i) zero h = omega arith
skip-lt (suc p) (suc i) (suc n) h = let q : skip p i < suc n = skip-lt p i n (omega arith) in omega arith

-- every number below n + 1 is p or is skipped to
pub skip-cases : (n p k : ℕ) → p < suc n → k < suc n → (k ≡ p) ⊎ ((i : ℕ) × (i < n) × (skip p i ≡ k))
skip-cases n zero zero hp h = inl refl
skip-cases n zero (suc k) hp h = inr (k, omega arith, refl)
skip-cases zero (suc p) k hp h = absurd (omega arith)
skip-cases (suc n) (suc p) zero hp h = inr (zero, omega arith, refl)
skip-cases (suc n) (suc p) (suc k) hp h = step (skip-cases n p k (omega arith) (omega arith))
  where
    step : (k ≡ p) ⊎ ((i : ℕ) × (i < n) × (skip p i ≡ k)) → (suc k ≡ suc p) ⊎ ((i : ℕ) × (i < suc n) × (skip (suc p) i ≡ suc k))
    step (inl e) = inl (ap suc e)
    step (inr t) = inr (suc t.0, (let h : t.0 < n = t.1 in omega arith), ap suc t.2)

-- a number below n with P, or none
pub find : (P : ℕ → Type 0) → ((i : ℕ) → Dec (P i)) → (n : ℕ) → ((i : ℕ) × (i < n) × P i) ⊎ ((i : ℕ) → i < n → ¬ P i)
find P d zero = inr (λ i h. absurd (omega arith))
find P d (suc n) = step (d zero) (find (λ i. P (suc i)) (λ i. d (suc i)) n)
  where
    none : ¬ P zero → ((i : ℕ) → i < n → ¬ P (suc i)) → (i : ℕ) → i < suc n → ¬ P i
    none h k zero l = h
    none h k (suc i) l = k i (omega arith)

    step : Dec (P zero) → ((i : ℕ) × (i < n) × P (suc i)) ⊎ ((i : ℕ) → i < n → ¬ P (suc i))
        → ((i : ℕ) × (i < suc n) × P i) ⊎ ((i : ℕ) → i < suc n → ¬ P i)
    step (yes p) r = inl (zero, omega arith, p)
    step (no h) (inl t) = inl (suc t.0, (let l : t.0 < n = t.1 in omega arith), t.2)
    step (no h) (inr k) = inr (none h k)

-- a function out of one choice for each number below n
pub choose : {X : Type 0} {Q : ℕ → X → Type 0} (n : ℕ) → X → ((i : ℕ) → i < n → (x : X) × Q i x)
    → (f : ℕ → X) × ((i : ℕ) → i < n → Q i (f i))
choose zero x h = ((λ _. x), λ i l. absurd (omega arith))
choose {X} {Q} (suc n) x h = join (choose {Q = λ i. Q (suc i)} n x (λ i l. h (suc i) (omega arith)))
  where
    first : (x : X) × Q zero x
    first = h zero (omega arith)

    holds : (f : ℕ → X) → ((i : ℕ) → i < n → Q (suc i) (f i)) → (i : ℕ) → i < suc n → Q i (cons first.0 f i)
    holds f k zero l = first.1
    holds f k (suc i) l = k i (omega arith)

    join : (f : ℕ → X) × ((i : ℕ) → i < n → Q (suc i) (f i)) → (f : ℕ → X) × ((i : ℕ) → i < suc n → Q i (f i))
    join r = (cons first.0 r.0, holds r.0 r.1)
