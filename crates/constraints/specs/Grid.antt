-- Rows of l octets, one after the other in a store: column c of row r stands r · l + c places from the first.
-- Assumes nothing.
use Rattle.std.specs.Prelude.{◌≡◌, List, ℕ, ◌+◌, ◌*◌, ◌/◌, ◌%◌, ◌<◌, ◌≤◌, length, get_or}

-- the octets of the rows, place by place
abbrev pub cells : ℕ → (ℕ → ℕ → ℕ) → ℕ → ℕ
cells l g k = g (k / l) (k % l)

-- a store holds h rows from `at` on, and c is a column
pub record GridRoom (xs : List ℕ) (at h l c : ℕ) : Type 0 where
  pub holds : at + h * l ≤ length xs
  pub column : c < l

-- ys is xs, but that column c of each row r below h is f r
pub record Column (f : ℕ → ℕ) (xs ys : List ℕ) (at h l c : ℕ) : Type 0 where
  pub size : length ys ≡ length xs
  pub part : (r : ℕ) → r < h → get_or ys (at + r * l + c) 0 ≡ f r
  pub others : (k : ℕ) → ((r : ℕ) → r < h → k ≡ at + r * l + c → ⊥) → get_or ys k 0 ≡ get_or xs k 0

-- ys has g in the h rows from column c on, and what xs has before and past them
pub record FilledFrom (g : ℕ → ℕ → ℕ) (xs ys : List ℕ) (at h l c : ℕ) : Type 0 where
  pub size : length ys ≡ length xs
  pub part : (r q : ℕ) → r < h → q < l → c ≤ q → get_or ys (at + r * l + q) 0 ≡ g r q
  pub low : (k : ℕ) → k < at → get_or ys k 0 ≡ get_or xs k 0
  pub high : (k : ℕ) → at + h * l ≤ k → get_or ys k 0 ≡ get_or xs k 0

-- ys has g in one row from column c on, and what xs has before and past the row
pub record RowFrom (g : ℕ → ℕ) (xs ys : List ℕ) (at l c : ℕ) : Type 0 where
  pub size : length ys ≡ length xs
  pub part : (q : ℕ) → q < l → c ≤ q → get_or ys (at + q) 0 ≡ g q
  pub low : (k : ℕ) → k < at → get_or ys k 0 ≡ get_or xs k 0
  pub high : (k : ℕ) → at + l ≤ k → get_or ys k 0 ≡ get_or xs k 0
