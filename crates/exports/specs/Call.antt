-- The C interface: what a call returns, and what it leaves in the slice that it was lent for its values.
-- Assumes nothing.
use Rattle.std.specs.Prelude.{◌≡◌, List, [], ◌∷◌, Result, ℕ, ltb, length, get_or}
use Rattle.field.specs.Answer.{Outcome, given, refused, unless, before, outcome}
use Rattle.field.specs.Runs.{Written}
use Rattle.field.specs.declared.refusal.Refusal.{Refusal}

-- 0 where the call was done, else the refusal's code: its number in the low byte, and its part above
abbrev pub code : {A : Type 0} → Outcome A → ℕ
code (given x) = 0
code (refused n) = n

-- the values stand at the front of the slice, or nothing was written
abbrev pub Kept : Outcome (List ℕ) → List ℕ → List ℕ → Type 0
Kept (given vs) out now = Written (λ k. get_or vs k 0) out now 0 (length vs)
Kept (refused n) out now = now ≡ out

-- a call answered r and made `now` of the slice `out`
pub record Called (o : Outcome (List ℕ)) (out now : List ℕ) (r : ℕ) : Type 0 where
  pub answer : r ≡ code o
  pub memory : Kept o out now

-- a call whose values need n places: 8 without them, before its own refusals
abbrev pub roomed : List ℕ → ℕ → Outcome (List ℕ) → Outcome (List ℕ)
roomed out n o = unless (ltb (length out) n) 8 o

-- the same, after its own refusals
abbrev pub then_roomed : List ℕ → Outcome (List ℕ) → Outcome (List ℕ)
then_roomed out (given vs) = roomed out (length vs) (given vs)
then_roomed out (refused n) = refused n

-- what a call asks before all else: its limits, then room for n values
abbrev pub and_room : Outcome (Unit {0}) → ℕ → ℕ → Outcome (Unit {0})
and_room limits room n = before limits (unless (ltb room n) 8 (given tt))

-- an outcome, as the numbers that are handed over
abbrev pub listed : {A : Type 0} → (A → List ℕ) → Outcome A → Outcome (List ℕ)
listed f (given x) = given (f x)
listed f (refused n) = refused n

abbrev pub single : ℕ → List ℕ
single x = x ∷ []

-- A call of which C is told only whether it was done: the layer below answered `below` and made ys of the store, as its contract C says, and r is
-- the code of that answer.
pub record Reports {A : Type 0} (C : Result A Refusal → List ℕ → Type 0) (r : ℕ) (ys : List ℕ) : Type 0 where
  pub below : Result A Refusal
  pub meets : C below ys
  pub result : r ≡ code (outcome below)

-- The same of an answer of any type, which `of` reads.
pub record ReportsBy {R A : Type 0} (of : R → Outcome A) (C : R → List ℕ → Type 0) (r : ℕ) (ys : List ℕ) : Type 0 where
  pub below : R
  pub meets : C below ys
  pub result : r ≡ code (of below)

-- what is told of a list besides: how many places were written
abbrev pub many : List ℕ → List ℕ
many l = single (length l)

-- a call that lists answered r, made `list'` of the slice for the list and `out'` of the one for its length
pub record Listing (o : Outcome (List ℕ)) (list list' out out' : List ℕ) (r : ℕ) : Type 0 where
  pub places : Called o list list' r
  pub told : Called (listed many o) out out' r
