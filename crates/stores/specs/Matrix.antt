-- The binary matrix over lent words (document 01, 'Matrices and slab'; matrix.rs): where an entry lies, which calls are refused,
-- and what the others leave.
-- Assumes nothing.
use Rattle.std.specs.Prelude.{List, Result, ℕ, ◌+◌, ◌-◌, ◌*◌, ◌/◌, ◌%◌, eqb, ltb, leb, length, get_or}
use Rattle.field.specs.Answer.{Outcome, given, unless, before, Does}
use Rattle.field.specs.Choice.{pick}
use Rattle.field.specs.Ones.{ones}
use Rattle.field.specs.Runs.{Written, part, added}
use Rattle.field.specs.declared.refusal.Refusal.{Refusal}
use Rattle.stores.specs.Bits.{bit_at, with_bit, crossed_from}
use Rattle.stores.specs.Rows.{packed_to, Exchanged}
use Rattle.stores.specs.Counting.{tally, AtFront}
use Rattle.stores.specs.declared.matrix.DenseBinaryMatrix.{DenseBinaryMatrix}

abbrev pub shape : ℕ → ℕ → DenseBinaryMatrix
shape height width = record { height = height; width = width }

-- the words of a row
abbrev pub row_words : ℕ → ℕ
row_words width = (width + 63) / 64

-- the words of a matrix
abbrev pub words_of : DenseBinaryMatrix → ℕ
words_of m = m.height * row_words m.width

-- where row i begins, and its column j
abbrev pub row_at : DenseBinaryMatrix → ℕ → ℕ
row_at m i = i * row_words m.width

abbrev pub entry : DenseBinaryMatrix → List ℕ → ℕ → ℕ → ℕ
entry m ws i j = bit_at ws (row_at m i) j

-- `set` takes any octet: 0 clears, any other sets
abbrev pub one_of : ℕ → ℕ
one_of v = pick (eqb v 0) 0 1

-- a height or a width too large
abbrev pub limited : ℕ → ℕ → Outcome (Unit {0})
limited height width = unless (ltb 131070 height) 2 (unless (ltb 65535 width) 2 (given tt))

-- the same, and a store too short
abbrev pub stored : ℕ → DenseBinaryMatrix → Outcome (Unit {0})
stored len m = before (limited m.height m.width) (unless (ltb len (words_of m)) 8 (given tt))

-- row or column i of n
abbrev pub placed : ℕ → ℕ → Outcome (Unit {0})
placed n i = unless (leb n i) 6 (given tt)

-- the range from `start` to `end`, of n rows or columns
abbrev pub ranged : ℕ → ℕ → ℕ → Outcome (Unit {0})
ranged n start end = unless (ltb end start) 6 (unless (ltb n end) 6 (given tt))

-- a list needs room for the whole range
abbrev pub roomy : ℕ → ℕ → ℕ → Outcome (Unit {0})
roomy room start end = unless (ltb room (end - start)) 8 (given tt)

-- a call on two places: i of n, and j of k
abbrev pub paired : ℕ → DenseBinaryMatrix → ℕ → ℕ → ℕ → ℕ → Outcome (Unit {0})
paired len m n i k j = before (stored len m) (before (placed n i) (placed k j))

-- a sum of rows: the two must differ
abbrev pub summed : ℕ → DenseBinaryMatrix → ℕ → ℕ → Outcome (Unit {0})
summed len m dest src = before (paired len m m.height dest m.height src) (unless (eqb dest src) 7 (given tt))

-- a count of the ones of a row
abbrev pub spanned : ℕ → DenseBinaryMatrix → ℕ → ℕ → ℕ → Outcome (Unit {0})
spanned len m i start end = before (stored len m) (before (placed m.height i) (ranged m.width start end))

-- a list: place i of n, the range from `start` to `end` of k
abbrev pub listable : ℕ → DenseBinaryMatrix → ℕ → ℕ → ℕ → ℕ → ℕ → ℕ → Outcome (Unit {0})
listable len m room n i k start end = before (stored len m) (before (roomy room start end) (before (placed n i) (ranged k start end)))

-- a smaller matrix: too large a number is refused as such, one that grows as outside
abbrev pub shrinkable : ℕ → DenseBinaryMatrix → DenseBinaryMatrix → Outcome (Unit {0})
shrinkable len m new =
    before (limited new.height new.width)
    (before (stored len m)
    (unless (ltb m.height new.height) 6
    (unless (ltb m.width new.width) 6
    (given tt))))

-- The calls. xs is the store at entry and ys at exit, r the answer.

abbrev pub Cleared : List ℕ → ℕ → ℕ → Result DenseBinaryMatrix Refusal → List ℕ → Type 0
Cleared xs height width =
    Does (before (stored (length xs) (shape height width)) (given (shape height width))) xs
    (λ ys. Written (λ k. 0) xs ys 0 (words_of (shape height width)))

abbrev pub got : List ℕ → DenseBinaryMatrix → ℕ → ℕ → Outcome ℕ
got xs m i j = before (paired (length xs) m m.height i m.width j) (given (entry m xs i j))

abbrev pub EntrySet : List ℕ → DenseBinaryMatrix → ℕ → ℕ → ℕ → Result (Unit {0}) Refusal → List ℕ → Type 0
EntrySet xs m i j v =
    Does (paired (length xs) m m.height i m.width j) xs
    (λ ys. Written (λ k. with_bit (get_or xs (row_at m i + j / 64) 0) (j % 64) (one_of v)) xs ys (row_at m i + j / 64) 1)

-- how many of the columns from `start` to `end` of row i are ones
abbrev pub ones_of : List ℕ → DenseBinaryMatrix → ℕ → ℕ → ℕ → Outcome ℕ
ones_of xs m i start end = before (spanned (length xs) m i start end) (given (tally (entry m xs i) start (end - start)))

-- out is the list's memory at entry
abbrev pub RowsListed : List ℕ → DenseBinaryMatrix → ℕ → ℕ → ℕ → List ℕ → Result ℕ Refusal → List ℕ → Type 0
RowsListed xs m j start end out =
    Does
    (before (listable (length xs) m (length out) m.width j m.height start end) (given (length (ones (λ i. entry m xs i j) start (end - start)))))
    out (AtFront (ones (λ i. entry m xs i j) start (end - start)) out)

abbrev pub ColumnsListed : List ℕ → DenseBinaryMatrix → ℕ → ℕ → List ℕ → Result ℕ Refusal → List ℕ → Type 0
ColumnsListed xs m i start out =
    Does
    (before (listable (length xs) m (length out) m.height i m.width start m.width) (given (length (ones (entry m xs i) start (m.width - start)))))
    out (AtFront (ones (entry m xs i) start (m.width - start)) out)

abbrev pub RowsSwapped : List ℕ → DenseBinaryMatrix → ℕ → ℕ → Result (Unit {0}) Refusal → List ℕ → Type 0
RowsSwapped xs m i j =
    Does (paired (length xs) m m.height i m.height j) xs (λ ys. Exchanged xs ys (row_at m i) (row_at m j) (row_words m.width))

abbrev pub ColumnsSwapped : List ℕ → DenseBinaryMatrix → ℕ → ℕ → ℕ → Result (Unit {0}) Refusal → List ℕ → Type 0
ColumnsSwapped xs m i j start =
    Does (paired (length xs) m m.width i m.width j) xs
    (λ ys. Written (crossed_from xs (row_words m.width) i j start) xs ys 0 (words_of m))

abbrev pub RowsAdded : List ℕ → DenseBinaryMatrix → ℕ → ℕ → Result (Unit {0}) Refusal → List ℕ → Type 0
RowsAdded xs m dest src =
    Does (summed (length xs) m dest src) xs
    (λ ys. Written (added xs (row_at m dest) (part xs (row_at m src) (row_words m.width))) xs ys (row_at m dest) (row_words m.width))

abbrev pub Resized : List ℕ → DenseBinaryMatrix → ℕ → ℕ → Result DenseBinaryMatrix Refusal → List ℕ → Type 0
Resized xs m height width =
    Does (before (shrinkable (length xs) m (shape height width)) (given (shape height width))) xs
    (λ ys. Written (packed_to xs (row_words width) (row_words m.width)) xs ys 0 (words_of (shape height width)))
