-- An answer is settled by what it stands for: of two that stand for the same, the contracts allow only one.
-- Assumes nothing.
use mathlib.Core.Path.{◌≡◌, refl, sym, ap, ap₂, ◌∙◌}
use Prim.Native.Nat.{ℕ, suc, ◌≤◌, ◌<◌}
use native.Mathlib.Omega.{arith}
use lib.Dec.{eqb}
use Rattle.std.specs.Prelude.{Result, Ok, Err}
use Rattle.field.specs.Choice.{pick}
use Rattle.field.specs.Answer.{Outcome, given, refused, number_of, place_of, part_of, number_in, part_in, code_of, outcome, outcome_of}
use Rattle.field.specs.declared.refusal.Part.{Part}
use Rattle.field.specs.declared.refusal.Part.TheVariants as Parts
use Rattle.field.specs.declared.refusal.Refusal.{Refusal}
use Rattle.field.specs.declared.refusal.Refusal.TheVariants as Why
use Rattle.field.proofs.Computed.{equals}

pub given-only : {A : Type 0} (a b : A) → given a ≡ given b → a ≡ b
given-only a b e = cc

pub refused-only : {A : Type 0} (m n : ℕ) → ◌≡◌ {A = Outcome A} (refused m) (refused n) → m ≡ n
refused-only m n e = cc

pub given-not-refused : {A : Type 0} (a : A) (n : ℕ) → given a ≡ refused n → ⊥
given-not-refused a n e = let z : ◌≡◌ {A = ℕ} 0 1 = cc in omega arith

-- what can be read back from what it stands for is settled by it
pub read_back : {A B : Type 0} (of : A → B) (read : B → A) → ((a : A) → read (of a) ≡ a) → (p q : A) → of p ≡ of q → p ≡ q
read_back of read back p q e = sym (back p) ∙ ap read e ∙ back q

-- the part of a place among the rules
abbrev pub part_named : ℕ → Part
part_named n =
    pick (eqb n 1) Parts.Wide (pick (eqb n 2) Parts.Kp (pick (eqb n 3) Parts.S (pick (eqb n 4) Parts.H (pick (eqb n 5) Parts.W
    (pick (eqb n 6) Parts.B (pick (eqb n 7) Parts.P (pick (eqb n 8) Parts.Ldpc (pick (eqb n 9) Parts.L Parts.Derived))))))))

part-named : (p : Part) → part_named (place_of p) ≡ p
part-named Parts.Wide = refl
part-named Parts.Kp = refl
part-named Parts.S = refl
part-named Parts.H = refl
part-named Parts.W = refl
part-named Parts.B = refl
part-named Parts.P = refl
part-named Parts.Ldpc = refl
part-named Parts.L = refl
part-named Parts.Derived = refl

-- no two parts share a place
pub place-only : (p q : Part) → place_of p ≡ place_of q → p ≡ q
place-only = read_back place_of part_named part-named

-- each place has its part
pub place-named : (j : ℕ) → j < 10 → place_of (part_named (suc j)) ≡ suc j
place-named = equals 10 (λ (j : ℕ). place_of (part_named (suc j))) suc tt

pub place-low : (p : Part) → 1 ≤ place_of p
place-low Parts.Wide = omega arith
place-low Parts.Kp = omega arith
place-low Parts.S = omega arith
place-low Parts.H = omega arith
place-low Parts.W = omega arith
place-low Parts.B = omega arith
place-low Parts.P = omega arith
place-low Parts.Ldpc = omega arith
place-low Parts.L = omega arith
place-low Parts.Derived = omega arith

pub place-high : (p : Part) → place_of p ≤ 10
place-high Parts.Wide = omega arith
place-high Parts.Kp = omega arith
place-high Parts.S = omega arith
place-high Parts.H = omega arith
place-high Parts.W = omega arith
place-high Parts.B = omega arith
place-high Parts.P = omega arith
place-high Parts.Ldpc = omega arith
place-high Parts.L = omega arith
place-high Parts.Derived = omega arith

pub part-high : (w : Refusal) → part_of w ≤ 10
part-high Why.DivisorZero = omega arith
part-high Why.OutOfRange = omega arith
part-high Why.BadTransmission = omega arith
part-high (Why.BadRow p) = place-high p
part-high Why.BadTables = omega arith
part-high Why.Outside = omega arith
part-high Why.SamePlace = omega arith
part-high Why.WrongLength = omega arith
part-high Why.BadCount = omega arith
part-high Why.BadSize = omega arith
part-high Why.NotBegun = omega arith

pub number-high : (w : Refusal) → number_of w ≤ 14
number-high Why.DivisorZero = omega arith
number-high Why.OutOfRange = omega arith
number-high Why.BadTransmission = omega arith
number-high (Why.BadRow p) = omega arith
number-high Why.BadTables = omega arith
number-high Why.Outside = omega arith
number-high Why.SamePlace = omega arith
number-high Why.WrongLength = omega arith
number-high Why.BadCount = omega arith
number-high Why.BadSize = omega arith
number-high Why.NotBegun = omega arith

-- a code's low byte is the number, and what stands above it is the part
pub code-number : (w : Refusal) → number_in (code_of w) ≡ number_of w
code-number w = omega (arith, number-high w)

pub code-part : (w : Refusal) → part_in (code_of w) ≡ part_of w
code-part w = omega (arith, number-high w)

-- the refusal of a number and a part
abbrev named_by : ℕ → ℕ → Refusal
named_by n p =
    pick (eqb n 1) Why.DivisorZero (pick (eqb n 2) Why.OutOfRange (pick (eqb n 3) Why.BadTransmission (pick (eqb n 4) (Why.BadRow (part_named p))
    (pick (eqb n 5) Why.BadTables (pick (eqb n 6) Why.Outside (pick (eqb n 7) Why.SamePlace (pick (eqb n 8) Why.WrongLength
    (pick (eqb n 9) Why.BadCount (pick (eqb n 10) Why.BadSize Why.NotBegun)))))))))

named-by : (w : Refusal) → named_by (number_of w) (part_of w) ≡ w
named-by Why.DivisorZero = refl
named-by Why.OutOfRange = refl
named-by Why.BadTransmission = refl
named-by (Why.BadRow p) = ap Why.BadRow (part-named p)
named-by Why.BadTables = refl
named-by Why.Outside = refl
named-by Why.SamePlace = refl
named-by Why.WrongLength = refl
named-by Why.BadCount = refl
named-by Why.BadSize = refl
named-by Why.NotBegun = refl

-- the refusal of a code
abbrev pub named : ℕ → Refusal
named n = named_by (number_in n) (part_in n)

pub named-code : (w : Refusal) → named (code_of w) ≡ w
named-code w = ap₂ named_by (code-number w) (code-part w) ∙ named-by w

-- no two refusals share a code
pub code-only : (v w : Refusal) → code_of v ≡ code_of w → v ≡ w
code-only = read_back code_of named named-code

-- an answer read back from what it stands for
abbrev answer_of : {A : Type 0} → Outcome A → Result A Refusal
answer_of (given a) = Ok a
answer_of (refused n) = Err (named n)

answer-back : {A : Type 0} (r : Result A Refusal) → answer_of (outcome r) ≡ r
answer-back (Ok a) = refl
answer-back (Err why) = ap Err (named-code why)

-- the one law of all answers: an answer is settled by what it stands for
pub outcome-only : {A : Type 0} (p q : Result A Refusal) → outcome p ≡ outcome q → p ≡ q
outcome-only = read_back outcome answer_of answer-back

-- and one whose value is read by a view, where the value can be read back
module _ {A B : Type 0} (view : A → B) (read : B → A) (back : (a : A) → read (view a) ≡ a) where
  viewed : Outcome B → Result A Refusal
  viewed (given b) = Ok (read b)
  viewed (refused n) = Err (named n)

  viewed-back : (r : Result A Refusal) → viewed (outcome_of view r) ≡ r
  unfolding viewed
  viewed-back (Ok a) = ap Ok (back a)
  viewed-back (Err why) = ap Err (named-code why)

  pub outcome_of-only : (p q : Result A Refusal) → outcome_of view p ≡ outcome_of view q → p ≡ q
  outcome_of-only = read_back (outcome_of view) viewed viewed-back
