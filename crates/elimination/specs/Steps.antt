-- Where rows, symbols and pivots stand, and what a search along the pivots finds.
-- Assumes nothing.
use Rattle.std.specs.Prelude.{◌≡◌, List, ℕ, ◌*◌, ◌≤◌, ◌<◌, length, get_or}

-- the two stores have room for n equations in L symbols of T octets
pub record StoresRoom (n L T : ℕ) (a d : List ℕ) : Type 0 where
  pub rows : n * L ≤ length a
  pub symbols : n * T ≤ length d

-- the column of the k-th pivot
abbrev pub column : List ℕ → ℕ → ℕ
column ps k = get_or ps k 0

-- there is a place for the pivot of each column, and each fits it
pub record Pivots (L : ℕ) (ps : List ℕ) : Type 0 where
  pub enough : L ≤ length ps
  pub small : L ≤ 65535

-- x is a number of a pivot from k on, or r, and the row is 0 at the pivots before it
pub record Passed (xs ps : List ℕ) (k r x : ℕ) : Type 0 where
  pub least : k ≤ x
  pub most : x ≤ r
  pub zeros : (j : ℕ) → k ≤ j → j < x → get_or xs (column ps j) 0 ≡ 0
