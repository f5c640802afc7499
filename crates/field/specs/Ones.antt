-- Which of a run of places hold a one.
-- Assumes nothing.
use Rattle.std.specs.Prelude.{List, [], ◌∷◌, ◌++◌, ℕ, zero, suc, ◌+◌, eqb}
use Rattle.field.specs.Choice.{pick}

-- those of the n places from `start` on at which f is not 0, in rising order
unfoldable pub ones : (ℕ → ℕ) → ℕ → ℕ → List ℕ
ones f start zero = []
ones f start (suc n) = pick (eqb (f (start + n)) 0) (ones f start n) (ones f start n ++ ((start + n) ∷ []))
