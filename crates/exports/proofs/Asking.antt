-- The calls of an intake, as C is told of them: a question without room for the shortfall, what was told of an answer, and that the number is settled.
-- Assumes nothing.
use mathlib.Core.Path.{◌≡◌, refl, sym, ap, ◌∙◌, subst}
use mathlib.Core.Bool.{Bool, true, false, not}
use mathlib.Core.List.{List, [], ◌++◌}
use Prim.Native.Nat.{ℕ, ◌*◌, ◌≤◌, ◌<◌}
use native.Mathlib.Nat.{mul-le-mul}
use native.Mathlib.Omega.{arith}
use borrow.Author.Tests.{lt-ltb, le-ltb}
use lib.Dec.{ltb}
use lib.ListN.{length}
use Rattle.std.specs.Prelude.{Result, Ok, Err}
use Rattle.field.specs.Answer.{Outcome, given, refused, unless, outcome, code_of}
use Rattle.field.specs.declared.refusal.Refusal.{Refusal}
use Rattle.field.proofs.Answers.{given-not-refused}
use Rattle.headers.specs.Told.{Told}
use Rattle.elimination.specs.declared.verdict.Verdict.{Verdict}
use Rattle.intake.specs.State.{Begun, l_in, t_in}
use Rattle.intake.specs.Night.{Admitted, Asks, Unchanged, askable, stores_room}
use Rattle.exports.specs.Call.{Kept, code}
use Rattle.exports.specs.Intakes.{QuestionedBy, Questioned, solution_code, lacking_in}
use Rattle.exports.specs.Solving.{lacking, verdict_code}

-- ---- a question that was lent no room for symbols

eight : (p q : Bool) → ◌≡◌ {A = Outcome (Unit {0})} (unless p 8 (unless q 8 (refused 8))) (refused 8)
eight true q = refl
eight false true = refl
eight false false = refl

-- is refused by 8, where the intake was begun
none-askable : {st ps : List ℕ} → Begun st ps → (a d : ℕ) → askable st a d 0 ≡ refused 8
none-askable {st} b a d =
    let n = b.numbers in
    let some : 0 < l_in st * t_in st = mul-le-mul {n₁ = 1} {m₁ = 1} {n₂ = l_in st} {m₂ = t_in st} (omega (arith, n.rules.ranges.kp-low)) n.counts.t-low in
    ap (λ (x : Bool). stores_room (l_in st) (t_in st) a d (unless x 8 (given tt))) (lt-ltb 0 (l_in st * t_in st) some)
    ∙ eight (ltb a (l_in st * l_in st)) (ltb d (l_in st * t_in st))

admitted-none : {st ps : List ℕ} (a d : ℕ) {x : Outcome (Unit {0})} → Admitted st ps (askable st a d 0) x → Admitted st ps (refused 8) x
admitted-none {st} {ps} a d {x} h = go h.since h.told h.answer
  where
    go : (b : Bool) → Told b (Begun st ps) → x ≡ unless (not b) 14 (askable st a d 0) → Admitted st ps (refused 8) x
    go true t e = record { since = true; told = t; answer = e ∙ none-askable t a d }
    go false t e = record { since = false; told = t; answer = e }

never-given : {st ps : List ℕ} → Admitted st ps (refused 8) (given tt) → ⊥
never-given {st} {ps} h = go h.since h.answer
  where
    go : (b : Bool) → given (tt {0}) ≡ unless (not b) 14 (refused 8) → ⊥
    go true e = given-not-refused tt 8 e
    go false e = given-not-refused tt 14 e

module _ (st ps a d st₁ ps₁ a₁ d₁ o₁ : List ℕ) where
  pub none-given : (x : Result Verdict Refusal) (v : Verdict) → x ≡ Ok v → Asks st ps a d [] st₁ ps₁ a₁ d₁ o₁ x → ⊥
  none-given x v e h =
      never-given (admitted-none (length a) (length d) (subst (λ (y : Result Verdict Refusal). Asks st ps a d [] st₁ ps₁ a₁ d₁ o₁ y) e h).admitted)

  pub none-refused : (x : Result Verdict Refusal) (why : Refusal) (n : ℕ) (o : List ℕ) → x ≡ Err why → Asks st ps a d [] st₁ ps₁ a₁ d₁ o₁ x
      → n ≡ code_of why → Admitted st ps (refused 8) (refused n) × (Unchanged st ps a d st₁ ps₁ a₁ d₁ × (o₁ ++ o ≡ o))
  none-refused x why n o e h q =
      let k = subst (λ (y : Result Verdict Refusal). Asks st ps a d [] st₁ ps₁ a₁ d₁ o₁ y) e h in
      let z : refused (code_of why) ≡ refused n = ap refused (sym q) in
      (subst (Admitted st ps (refused 8)) z (admitted-none (length a) (length d) k.admitted), (k.memory.0, ap (λ (y : List ℕ). y ++ o) k.memory.1))

-- ---- what C is told

module _ (st ps a d o f st₁ ps₁ a₁ d₁ o₁ : List ℕ) where
  -- of a question without room for the shortfall
  pub without-room : length f < 1 → (n : ℕ) → Admitted st ps (refused 8) (refused n) → Unchanged st ps a d st₁ ps₁ a₁ d₁ × (o₁ ≡ o)
      → Questioned st ps a d o f st₁ ps₁ a₁ d₁ o₁ f n
  without-room h n x u =
      subst (λ (b : Bool). QuestionedBy b st ps a d o f st₁ ps₁ a₁ d₁ o₁ f n) (sym (lt-ltb (length f) 1 h)) (x, u.0, u.1, refl)

  -- and of one with room
  module _ (room : 1 ≤ length f) (x : Result Verdict Refusal) (h : Asks st ps a d o st₁ ps₁ a₁ d₁ o₁ x) where
    roomy : (f₁ : List ℕ) (n : ℕ) → n ≡ solution_code x → Kept (lacking_in x) f f₁ → Questioned st ps a d o f st₁ ps₁ a₁ d₁ o₁ f₁ n
    roomy f₁ n e k =
        subst (λ (b : Bool). QuestionedBy b st ps a d o f st₁ ps₁ a₁ d₁ o₁ f₁ n) (sym (le-ltb (length f) 1 room)) (x, h, e, k)

    pub told-verdict : (v : Verdict) (f₁ : List ℕ) (n : ℕ) → x ≡ Ok v → (n ≡ verdict_code v) × Kept (given (lacking v)) f f₁
        → Questioned st ps a d o f st₁ ps₁ a₁ d₁ o₁ f₁ n
    told-verdict v f₁ n e k =
        roomy f₁ n (k.0 ∙ ap solution_code (sym e)) (subst (λ (y : Result Verdict Refusal). Kept (lacking_in y) f f₁) (sym e) k.1)

    pub told-refusal : (why : Refusal) (n : ℕ) → x ≡ Err why → n ≡ code_of why → Questioned st ps a d o f st₁ ps₁ a₁ d₁ o₁ f n
    told-refusal why n e q =
        roomy f n (q ∙ ap solution_code (sym e)) (subst (λ (y : Result Verdict Refusal). Kept (lacking_in y) f f) (sym e) refl)

-- of a question without room for the shortfall, which was lent no room for symbols
module _ (st ps a d o f st₁ ps₁ a₁ d₁ o₁ : List ℕ) {n : ℕ} (x : Result Verdict Refusal) where
  pub told-without : length f < 1 → Asks st ps a d [] st₁ ps₁ a₁ d₁ o₁ x → n ≡ code (outcome x) → Questioned st ps a d o f st₁ ps₁ a₁ d₁ (o₁ ++ o) f n
  told-without h u q = go x u q
    where
      go : (x : Result Verdict Refusal) → Asks st ps a d [] st₁ ps₁ a₁ d₁ o₁ x → n ≡ code (outcome x)
          → Questioned st ps a d o f st₁ ps₁ a₁ d₁ (o₁ ++ o) f n
      go (Ok v) u q = absurd (none-given st ps a d st₁ ps₁ a₁ d₁ o₁ (Ok v) v refl u)
      go (Err why) u q =
          let k = none-refused st ps a d st₁ ps₁ a₁ d₁ o₁ (Err why) why n o refl u q in
          without-room st ps a d o f st₁ ps₁ a₁ d₁ (o₁ ++ o) h n k.0 k.1
