-- The calls that write a run or a symbol and tell whether it is all 0 now, and the refusals of those that hand over values of a matrix.
-- Assumes nothing.
use Rattle.std.specs.Prelude.{◌≡◌, Bool, not, List, Result, ℕ, ◌-◌, eqb, ltb, length}
use Rattle.field.specs.Answer.{Outcome, Tells, before, given, outcome, refused, unless}
use Rattle.field.specs.Choice.{pick}
use Rattle.field.specs.Runs.{added, fused, scaled}
use Rattle.field.specs.Ones.{ones}
use Rattle.field.specs.declared.refusal.Refusal.{Refusal}
use Rattle.stores.specs.Matrix.{entry, limited, listable}
use Rattle.stores.specs.declared.matrix.DenseBinaryMatrix.{DenseBinaryMatrix}
use Rattle.exports.specs.Call.{Called, and_room, listed, single}

-- whether a symbol is all 0 now, as C is told it: 1 or 0
abbrev pub flag : Bool → List ℕ
flag zero = single (pick zero 1 0)

-- A call that was refused before the layer below was asked, or that hands over what this answered: C is the contract below, of the store that was xs and
-- is ys; the flag went to the slice that was out and is out'.
abbrev pub ToldBy : Outcome (Unit {0}) → (Result Bool Refusal → List ℕ → Type 0) → (xs ys out out' : List ℕ) → ℕ → Type 0
ToldBy (given _) C xs ys out out' r = (below : Result Bool Refusal) × C below ys × Called (listed flag (outcome below)) out out' r
ToldBy (refused n) C xs ys out out' r = (r ≡ n) × (ys ≡ xs) × (out' ≡ out)

-- what is asked first: the call's limits, then room for the flag
pub record TellsZero (limits : Outcome (Unit {0})) (C : Result Bool Refusal → List ℕ → Type 0) (xs ys out out' : List ℕ) (r : ℕ) : Type 0 where
  pub zero : ToldBy (and_room limits (length out) 1) C xs ys out out' r

-- a count of symbols out of range
abbrev pub countable : ℕ → Outcome (Unit {0})
countable count = unless (ltb 131070 count) 2 (given tt)

-- two runs have to be of one length
abbrev pub same_length : List ℕ → List ℕ → Outcome (Unit {0})
same_length xs ys = unless (not (eqb (length xs) (length ys))) 8 (given tt)

-- the calls on runs, which the layer below does not refuse: xs is the run at entry, s the other run
abbrev pub RunAdded : List ℕ → List ℕ → Result Bool Refusal → List ℕ → Type 0
RunAdded xs s = Tells (same_length xs s) xs (added xs 0 s) 0 (length s)

abbrev pub RunScaled : List ℕ → ℕ → Result Bool Refusal → List ℕ → Type 0
RunScaled xs c = Tells (given tt) xs (scaled c xs) 0 (length xs)

abbrev pub RunFused : List ℕ → List ℕ → ℕ → Result Bool Refusal → List ℕ → Type 0
RunFused xs s c = Tells (same_length xs s) xs (fused xs 0 c s) 0 (length s)

-- a height or width out of range (2), then no room for one value (8)
abbrev pub sized : ℕ → ℕ → List ℕ → Outcome (Unit {0})
sized height width out = and_room (limited height width) (length out) 1

-- the rows from `start` to `end` with a one in column j, for a list with room for `room`
abbrev pub ones_down : List ℕ → DenseBinaryMatrix → (j start end room : ℕ) → Outcome (List ℕ)
ones_down ws m j start end room =
    before (listable (length ws) m room m.width j m.height start end) (given (ones (λ i. entry m ws i j) start (end - start)))

-- the columns from `start` on with a one in row i
abbrev pub ones_along : List ℕ → DenseBinaryMatrix → (i start room : ℕ) → Outcome (List ℕ)
ones_along ws m i start room =
    before (listable (length ws) m room m.height i m.width start m.width) (given (ones (entry m ws i) start (m.width - start)))
