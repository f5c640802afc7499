-- Rows of words, and what the operations on rows leave.
-- Assumes nothing.
use Rattle.std.specs.Prelude.{◌≡◌, List, ◌⊎◌, ℕ, ◌+◌, ◌*◌, ◌/◌, ◌%◌, ◌≤◌, ◌<◌, length, get_or}

-- word k when rows of `old` words have been packed to rows of their first n
abbrev pub packed_to : List ℕ → ℕ → ℕ → ℕ → ℕ
packed_to ws n old k = get_or ws (k / n * old + k % n) 0

-- ys is xs, but that the n words at i and the n words at j have changed places
pub record Exchanged (xs ys : List ℕ) (i j n : ℕ) : Type 0 where
  pub size : length ys ≡ length xs
  pub first : (k : ℕ) → k < n → get_or ys (i + k) 0 ≡ get_or xs (j + k) 0
  pub second : (k : ℕ) → k < n → get_or ys (j + k) 0 ≡ get_or xs (i + k) 0
  pub rest : (q : ℕ) → (q < i) ⊎ (i + n ≤ q) → (q < j) ⊎ (j + n ≤ q) → get_or ys q 0 ≡ get_or xs q 0
