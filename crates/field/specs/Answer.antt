-- What a call that may refuse answers: a value, or the code of the refusal, which is its number in document 01's table and its part. Every layer's
-- answers are read so.
-- Assumes nothing.
use Rattle.std.specs.Prelude.{◌≡◌, Bool, true, false, List, Result, Ok, Err, ℕ, ◌+◌, ◌*◌, ◌/◌, ◌%◌, eqb, ltb}
use Rattle.field.specs.Octet.{power, over}
use Rattle.field.specs.Runs.{Written, zero_from}
use Rattle.field.specs.declared.refusal.Part.{Part}
use Rattle.field.specs.declared.refusal.Part.TheVariants as Parts
use Rattle.field.specs.declared.refusal.Refusal.{Refusal}
use Rattle.field.specs.declared.refusal.Refusal.TheVariants as Why

pub data Outcome (A : Type 0) : Type 0 where
  given : A → Outcome A
  refused : ℕ → Outcome A

-- refused with n where the test holds, else what follows: a chain of these is an order of precedence
abbrev pub unless : {A : Type 0} → Bool → ℕ → Outcome A → Outcome A
unless true n o = refused n
unless false n o = o

-- the first refusal of two
abbrev pub before : {A B : Type 0} → Outcome A → Outcome B → Outcome B
before (given a) o = o
before (refused n) o = refused n

-- a refusal changes no lent memory (document 01, 'Refusal numbers'); else P holds of what is there now
abbrev pub Left : {A : Type 0} → Outcome A → List ℕ → List ℕ → Type 0 → Type 0
Left (given a) xs ys P = P
Left (refused n) xs ys P = ys ≡ xs

-- document 01, 'Refusal numbers'; 14 is of document 02, E1
abbrev pub number_of : Refusal → ℕ
number_of Why.DivisorZero = 1
number_of Why.OutOfRange = 2
number_of Why.BadTransmission = 3
number_of (Why.BadRow part) = 4
number_of Why.BadTables = 5
number_of Why.Outside = 6
number_of Why.SamePlace = 7
number_of Why.WrongLength = 8
number_of Why.BadCount = 9
number_of Why.BadSize = 10
number_of Why.NotBegun = 14

-- document 02, E7: where the rule of a part stands among the rules of a row
abbrev pub place_of : Part → ℕ
place_of Parts.Wide = 1
place_of Parts.Kp = 2
place_of Parts.S = 3
place_of Parts.H = 4
place_of Parts.W = 5
place_of Parts.B = 6
place_of Parts.P = 7
place_of Parts.Ldpc = 8
place_of Parts.L = 9
place_of Parts.Derived = 10

-- a refused row has a part, every other refusal none
abbrev pub part_of : Refusal → ℕ
part_of Why.DivisorZero = 0
part_of Why.OutOfRange = 0
part_of Why.BadTransmission = 0
part_of (Why.BadRow part) = place_of part
part_of Why.BadTables = 0
part_of Why.Outside = 0
part_of Why.SamePlace = 0
part_of Why.WrongLength = 0
part_of Why.BadCount = 0
part_of Why.BadSize = 0
part_of Why.NotBegun = 0

-- number and part as one, which an outcome carries and C is told; the theorems `code-number` and `code-part` say that it is read back so
abbrev pub coded : ℕ → ℕ → ℕ
coded number part = number + 256 * part

abbrev pub number_in : ℕ → ℕ
number_in code = code % 256

abbrev pub part_in : ℕ → ℕ
part_in code = code / 256

abbrev pub code_of : Refusal → ℕ
code_of why = coded (number_of why) (part_of why)

-- what the answer of a call stands for
abbrev pub outcome : {A : Type 0} → Result A Refusal → Outcome A
outcome (Ok a) = given a
outcome (Err why) = refused (code_of why)

-- the same of an answer whose value is read by `view`
abbrev pub outcome_of : {A B : Type 0} → (A → B) → Result A Refusal → Outcome B
outcome_of view (Ok a) = given (view a)
outcome_of view (Err why) = refused (code_of why)

-- what a call that may refuse and may write does: its answer r stands for o, and memory is as it was or as P says
abbrev pub Does : {A : Type 0} → Outcome A → List ℕ → (List ℕ → Type 0) → Result A Refusal → List ℕ → Type 0
Does o xs P r ys = (outcome r ≡ o) × Left (outcome r) xs ys (P ys)

-- What a call that writes a symbol does (document 02, E5): where o does not refuse, the n places from `at` on are written as f says, and the answer is
-- whether they are all 0 now.
abbrev pub Tells : Outcome (Unit {0}) → List ℕ → (ℕ → ℕ) → (at n : ℕ) → Result Bool Refusal → List ℕ → Type 0
Tells o xs f at n r ys = Does (before o (given (zero_from ys at n))) xs (λ zs. Written f xs zs at n) r ys

-- the same of an answer of any type R, which `of` reads
abbrev pub DoesBy : {R A : Type 0} → (R → Outcome A) → Outcome A → List ℕ → (List ℕ → Type 0) → R → List ℕ → Type 0
DoesBy of o xs P r ys = (of r ≡ o) × Left (of r) xs ys (P ys)

abbrev pub TellsBy : {R : Type 0} → (R → Outcome Bool) → Outcome (Unit {0}) → List ℕ → (ℕ → ℕ) → (at n : ℕ) → R → List ℕ → Type 0
TellsBy of o xs f at n r ys = DoesBy of (before o (given (zero_from ys at n))) xs (λ zs. Written f xs zs at n) r ys

-- what a division answers
abbrev pub divided : ℕ → ℕ → Outcome ℕ
divided a b = unless (eqb b 0) 1 (given (over a b))

-- what a power of alpha answers
abbrev pub raised : ℕ → Outcome ℕ
raised i = unless (ltb 255 i) 2 (given (power i))
