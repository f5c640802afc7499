-- The shift: what it gives below K and from K on, and that no two ESIs have one ISI.
-- Assumes nothing.
use Rattle.std.proofs.Common.{◌≡◌, ℕ, ◌+◌, ◌-◌, ◌<◌, ◌≤◌, sym, ◌∙◌, arith, le-ltb, lt-ltb}
use native.Mathlib.Decide.{dec_lt}
use Rattle.headers.specs.Shift.{shifted}

module _ (k kp : ℕ) where
  pub shifted-below : (e : ℕ) → e < k → shifted e k kp ≡ e
  shifted-below e h = rw (lt-ltb e k h)

  pub shifted-from : (e : ℕ) → k ≤ e → shifted e k kp ≡ e + (kp - k)
  shifted-from e h = rw (le-ltb e k h)

  -- each ISI is that of one ESI
  pub shifted-once : (e f : ℕ) → shifted e k kp ≡ shifted f k kp → e ≡ f
  shifted-once e f q = go (dec_lt e k) (dec_lt f k)
    where
      go : Dec (e < k) → Dec (f < k) → e ≡ f
      go (yes l) (yes m) = sym (shifted-below e l) ∙ q ∙ shifted-below f m
      go (yes l) (no m) = omega (arith, shifted-below e l, shifted-from f (omega arith))
      go (no l) (yes m) = omega (arith, shifted-from e (omega arith), shifted-below f m)
      go (no l) (no m) = omega (arith, shifted-from e (omega arith), shifted-from f (omega arith))
