-- The calls over a block: how C is told of a verdict and of a place, and when a call is refused that was lent no room for them.
-- Assumes nothing.
use Rattle.std.specs.Prelude.{◌≡◌, List, [], ◌∷◌, Ok, ℕ, length}
use Rattle.field.specs.Answer.{Outcome, given, refused, before}
use Rattle.headers.specs.declared.row.Row.{Row}
use Rattle.elimination.specs.declared.verdict.Verdict.{Verdict}
use Rattle.elimination.specs.declared.verdict.Verdict.TheVariants.{Solved, Contradiction, Open}
use Rattle.solver.specs.Display.{any_large, answerable, located}
use Rattle.solver.specs.System.{Solves, admitted}
use Rattle.solver.specs.declared.display.Place.{Place}
use Rattle.solver.specs.declared.display.Place.TheVariants.{Arrived, Rebuilt}
use Rattle.exports.specs.Call.{Kept, and_room, listed, single, roomed}

-- 100 and 101 are the numbers of no refusal
abbrev pub verdict_code : Verdict → ℕ
verdict_code Solved = 0
verdict_code Contradiction = 100
verdict_code (Open s) = 101

-- the values that go with it: the shortfall
abbrev pub lacking : Verdict → List ℕ
lacking Solved = []
lacking Contradiction = []
lacking (Open s) = single s

-- the refusals of `solve`, then a slice f without room for the shortfall: 4, 5, 9, 10, 8
abbrev pub taken : Row → List ℕ → ℕ → ℕ → (es xs a d o f : List ℕ) → Outcome (Unit {0})
taken r v k t es xs a d o f = and_room (admitted r v k t es xs a d o) (length f) 1

-- A call that was taken or refused made a₁, d₁, o₁ and f₁ of the four stores that it was lent, and answered n.
abbrev pub SolvingBy : Outcome (Unit {0}) → Row → List ℕ → ℕ → ℕ → (es xs a d o f a₁ d₁ o₁ f₁ : List ℕ) → ℕ → Type 0
SolvingBy (given _) r v k t es xs a d o f a₁ d₁ o₁ f₁ n =
    (x : Verdict) × Solves r v k t es xs a d o a₁ d₁ o₁ (Ok x) × (n ≡ verdict_code x) × Kept (given (lacking x)) f f₁
SolvingBy (refused e) r v k t es xs a d o f a₁ d₁ o₁ f₁ n = (n ≡ e) × (a₁ ≡ a) × (d₁ ≡ d) × (o₁ ≡ o) × (f₁ ≡ f)

abbrev pub Solving : Row → List ℕ → ℕ → ℕ → (es xs a d o f a₁ d₁ o₁ f₁ : List ℕ) → ℕ → Type 0
Solving r v k t es xs a d o f a₁ d₁ o₁ f₁ n = SolvingBy (taken r v k t es xs a d o f) r v k t es xs a d o f a₁ d₁ o₁ f₁ n

-- 0 for the arrivals, 1 for the rebuilt store, and where in it the symbol begins
abbrev pub place_numbers : Place → List ℕ
place_numbers (Arrived s) = 0 ∷ s ∷ []
place_numbers (Rebuilt s) = 1 ∷ s ∷ []

-- the refusals of `display`, 9, 10, 8, 6, with a slice without room for two values under 8: symbol 0 is never outside, so that what is asked of it
-- is all that stands before 6
abbrev pub displayed : ℕ → ℕ → List ℕ → ℕ → ℕ → ℕ → List ℕ → Outcome (List ℕ)
displayed k t es came built i out =
    before (answerable (length es) (any_large es) came built k t 0) (roomed out 2 (listed place_numbers (located k t es came built i)))
