-- How many, and which, of a run of places hold a one.
-- Assumes nothing.
use Rattle.std.specs.Prelude.{◌≡◌, List, ℕ, zero, suc, ◌+◌, length, get_or}
use Rattle.field.specs.Ones.{ones}
use Rattle.field.specs.Runs.{Written}

-- how many of the n places from `start` on; f is 0 or 1 at each
unfoldable pub tally : (ℕ → ℕ) → ℕ → ℕ → ℕ
tally f start zero = 0
tally f start (suc n) = tally f start n + f (start + n)

-- the list l stands at the front of a store; the rest of its room stays
abbrev pub AtFront : List ℕ → List ℕ → List ℕ → Type 0
AtFront l xs ys = Written (λ k. get_or l k 0) xs ys 0 (length l)

-- r of them were written to the front of a store; the rest of its room stays
pub record Listed (f : ℕ → ℕ) (start n : ℕ) (xs ys : List ℕ) (r : ℕ) : Type 0 where
  pub many : r ≡ length (ones f start n)
  pub written : Written (λ k. get_or (ones f start n) k 0) xs ys 0 r
