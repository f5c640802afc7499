-- Row operations on memory, each a case of `field`'s `Written`: a matrix of width w stands in a list, row after row.
-- Assumes nothing.
use Rattle.std.specs.Prelude.{List, ◌++◌, ℕ, ◌*◌, get_or, take}
use Rattle.field.specs.Octet.{plus, times}
use Rattle.field.specs.Runs.{Written}
use Rattle.linear.specs.Bytes.{cell}

-- f times row k went onto row i, and nothing else changed
abbrev pub RowAdded : (w i k f : ℕ) (xs ys : List ℕ) → Type 0
RowAdded w i k f xs ys = Written (λ c. plus (cell w xs i c) (times f (cell w xs k c))) xs ys (i * w) w

-- row i was multiplied by f
abbrev pub RowTimes : (w i f : ℕ) (xs ys : List ℕ) → Type 0
RowTimes w i f xs ys = Written (λ c. times f (cell w xs i c)) xs ys (i * w) w

-- row k of zs, another list or the same, was copied to row i
abbrev pub RowCopied : (w i k : ℕ) (zs xs ys : List ℕ) → Type 0
RowCopied w i k zs xs ys = Written (λ c. cell w zs k c) xs ys (i * w) w

-- nothing changed but in the first n places
abbrev pub OnlyBelow : (n : ℕ) (xs ys : List ℕ) → Type 0
OnlyBelow n xs ys = Written (λ k. get_or ys k 0) xs ys 0 n

-- the first n rows of width w in a, and x behind them
unfoldable pub behind : (w n : ℕ) (a x : List ℕ) → List ℕ
behind w n a x = take (n * w) a ++ x
