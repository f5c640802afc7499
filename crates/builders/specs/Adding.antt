-- Ones added to a binary matrix, entry by entry, as the sums of RFC 6330 section 5.3.3.3 add them.
-- Assumes nothing.
use Rattle.std.specs.Prelude.{◌≡◌, List, ℕ, ◌+◌, ◌/◌, ◌<◌, ◌≤◌, eqb, length, get_or}
use Rattle.field.specs.Choice.{pick}
use Rattle.field.specs.Octet.{plus}
use Rattle.field.specs.Sum.{sum}
use Rattle.constraints.specs.Encoding.{enc}
use Rattle.stores.specs.Matrix.{entry, row_words, words_of}
use Rattle.stores.specs.declared.matrix.DenseBinaryMatrix.{DenseBinaryMatrix}

-- ys is xs with f added to each entry, the bits past the width too; the words past the matrix stay
pub record Added (f : ℕ → ℕ → ℕ) (xs ys : List ℕ) (m : DenseBinaryMatrix) : Type 0 where
  pub size : length ys ≡ length xs
  pub bits : (r c : ℕ) → r < m.height → c / 64 < row_words m.width → entry m ys r c ≡ plus (entry m xs r c) (f r c)
  pub high : (k : ℕ) → words_of m ≤ k → get_or ys k 0 ≡ get_or xs k 0

-- the matrix is within its limits and lies inside a store
pub record Lies (m : DenseBinaryMatrix) (xs : List ℕ) : Type 0 where
  pub narrow : m.width < 65536
  pub room : words_of m ≤ length xs

-- f in row i, and 0 in the others
abbrev pub only : ℕ → (ℕ → ℕ) → ℕ → ℕ → ℕ
only i f r c = pick (eqb r i) (f c) 0

-- the rows of the ISIs (5.3.3.4), from row `from` on
abbrev pub enc_rows : List ℕ → List ℕ → (j w p p1 from : ℕ) → ℕ → ℕ → ℕ
enc_rows v isis j w p p1 from r c = sum (length isis) (λ k. only (from + k) (enc v j w p p1 (get_or isis k 0)) r c)
