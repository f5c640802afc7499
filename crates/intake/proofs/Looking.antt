-- The pivots that were looked at, one after the other.
-- Assumes nothing.
use mathlib.Core.Path.{◌≡◌, subst}
use mathlib.Core.List.{List}
use Prim.Native.Nat.{ℕ, ◌+◌, ◌<◌}
use native.Mathlib.Decide.{dec_lt}
use native.Mathlib.Omega.{arith}
use Rattle.elimination.specs.Steps.{column}

pub below-one-more : (ps : List ℕ) {l i : ℕ} → ((k : ℕ) → k < i → column ps k < l) → column ps i < l → (k : ℕ) → k < i + 1 → column ps k < l
below-one-more ps {l} {i} f h k b = go (dec_lt k i)
  where
    go : Dec (k < i) → column ps k < l
    go (yes q) = f k q
    go (no q) = let e : i ≡ k = omega arith in subst (λ (z : ℕ). column ps z < l) e h
