-- Families indexed by numbers, as functions of ℕ: one put in front, put in at a place, put over a place, or left out.
-- Assumes nothing.
use Rattle.std.specs.Prelude.{ℕ, zero, suc, ◌<◌}

module _ {A : Type 0} where
  -- x first, then f
  abbrev pub cons : A → (ℕ → A) → ℕ → A
  cons x f zero = x
  cons x f (suc i) = f i

  -- x at place p, and f at the others, in order
  abbrev pub put : ℕ → A → (ℕ → A) → ℕ → A
  put zero x f zero = x
  put zero x f (suc i) = f i
  put (suc p) x f zero = f zero
  put (suc p) x f (suc i) = put p x (λ j. f (suc j)) i

  -- x at place p, and f elsewhere
  abbrev pub update : ℕ → A → (ℕ → A) → ℕ → A
  update zero x f zero = x
  update zero x f (suc i) = f (suc i)
  update (suc p) x f zero = f zero
  update (suc p) x f (suc i) = update p x (λ j. f (suc j)) i

  -- f 0 .. f (n - 1), then g
  abbrev pub ahead : ℕ → (ℕ → A) → (ℕ → A) → ℕ → A
  ahead zero f g i = g i
  ahead (suc n) f g zero = f zero
  ahead (suc n) f g (suc i) = ahead n (λ j. f (suc j)) g i

-- the i-th number other than p
abbrev pub skip : ℕ → ℕ → ℕ
skip zero i = suc i
skip (suc p) zero = zero
skip (suc p) (suc i) = suc (skip p i)

-- the columns below L, and the part of each vector of a family that stands there
abbrev pub Col : ℕ → Type 0
Col L = (c : ℕ) × (c < L)

abbrev pub cut : {A : Type 0} (L : ℕ) → (ℕ → ℕ → A) → ℕ → Col L → A
cut L w i c = w i c.0
