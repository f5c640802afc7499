-- The calls of an intake (document 02, E1 and E14): how C is told of them. State, pivots and stores before, st, ps, a and d; after, st₁, ps₁, a₁ and d₁.
-- Assumes nothing.
use Rattle.std.specs.Prelude.{◌≡◌, Bool, true, false, List, Result, Ok, Err, ℕ, ltb, length}
use Rattle.field.specs.Answer.{Outcome, given, refused, code_of, outcome}
use Rattle.field.specs.declared.refusal.Refusal.{Refusal}
use Rattle.elimination.specs.declared.verdict.Verdict.{Verdict}
use Rattle.intake.specs.Night.{Admitted, Asks, Takes, Unchanged}
use Rattle.exports.specs.Call.{Kept, code}
use Rattle.exports.specs.Solving.{lacking, verdict_code}

-- a packet: whether it was taken
pub record Packeted (e : ℕ) (s st ps a d st₁ ps₁ a₁ d₁ : List ℕ) (n : ℕ) : Type 0 where
  pub below : Result (Unit {0}) Refusal
  pub meets : Takes e s st ps a d st₁ ps₁ a₁ d₁ below
  pub result : n ≡ code (outcome below)

-- a question's answer as a number, and what goes to the slice for the shortfall
abbrev pub solution_code : Result Verdict Refusal → ℕ
solution_code (Ok v) = verdict_code v
solution_code (Err why) = code_of why

abbrev pub lacking_in : Result Verdict Refusal → Outcome (List ℕ)
lacking_in (Ok v) = given (lacking v)
lacking_in (Err why) = refused (code_of why)

-- a question, with the slice f, which is f₁ afterwards. One without a place is refused by 8, which 14 alone stands before.
abbrev pub QuestionedBy : Bool → (st ps a d o f st₁ ps₁ a₁ d₁ o₁ f₁ : List ℕ) → ℕ → Type 0
QuestionedBy true st ps a d o f st₁ ps₁ a₁ d₁ o₁ f₁ n =
    Admitted st ps (refused 8) (refused n) × Unchanged st ps a d st₁ ps₁ a₁ d₁ × (o₁ ≡ o) × (f₁ ≡ f)
QuestionedBy false st ps a d o f st₁ ps₁ a₁ d₁ o₁ f₁ n =
    (x : Result Verdict Refusal) × Asks st ps a d o st₁ ps₁ a₁ d₁ o₁ x × (n ≡ solution_code x) × Kept (lacking_in x) f f₁

abbrev pub Questioned : (st ps a d o f st₁ ps₁ a₁ d₁ o₁ f₁ : List ℕ) → ℕ → Type 0
Questioned st ps a d o f st₁ ps₁ a₁ d₁ o₁ f₁ n = QuestionedBy (ltb (length f) 1) st ps a d o f st₁ ps₁ a₁ d₁ o₁ f₁ n
