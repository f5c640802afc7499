-- Chains of refusals: what is known when none was given, when one was, and that a call's answer and memory are settled.
-- Assumes nothing.
use mathlib.Core.Path.{◌≡◌, refl, sym, ap, ◌∙◌, subst}
use mathlib.Core.Bool.{Bool, true, false}
use mathlib.Core.List.{List}
use Prim.Native.Nat.{ℕ}
use Rattle.std.specs.Prelude.{Result, Ok, Err, IsErrAnd}
use Rattle.std.proofs.lemmas.Result.{err_from_is_err_and}
use Rattle.field.specs.Answer.{Outcome, given, refused, unless, before, Left, Does, DoesBy, Tells, TellsBy, outcome, code_of}
use Rattle.field.specs.Runs.{Written, all_zero}
use Rattle.field.specs.declared.refusal.Refusal.{Refusal}
use Rattle.field.proofs.Answers.{given-not-refused, outcome-only}
use Rattle.field.proofs.Writing.{written_once}
use Rattle.field.proofs.Zeros.{zero-written}

-- no refusal: the test failed, and what follows refuses nothing either
pub passed : {A : Type 0} (b : Bool) (n : ℕ) (o : Outcome A) (a : A) → unless b n o ≡ given a → (b ≡ false) × (o ≡ given a)
passed true n o a e = absurd (given-not-refused a n (sym e))
passed false n o a e = (refl, e)

pub passed-before : {A B : Type 0} (p : Outcome A) (o : Outcome B) (b : B) → before p o ≡ given b → (a : A) × (p ≡ given a) × (o ≡ given b)
passed-before (given a) o b e = (a, refl, e)
passed-before (refused n) o b e = absurd (given-not-refused b n (sym e))

-- an answer that tells of what stands first
module _ {A B : Type 0} {p : Outcome A} (x : Result A Refusal) (q : outcome x ≡ p) (o : Outcome B) where
  pub went_on : (a : A) → x ≡ Ok a → before p o ≡ o
  went_on a e = ap (λ (y : Outcome A). before y o) (sym q) ∙ ap (λ (y : Result A Refusal). before (outcome y) o) e

  pub stopped : (why : Refusal) → x ≡ Err why → refused (code_of why) ≡ before p o
  stopped why e = sym (ap (λ (y : Outcome A). before y o) (sym q) ∙ ap (λ (y : Result A Refusal). before (outcome y) o) e)

-- what a `?` hands on is the error that it met
pub handed : {A E : Type 0} {why : E} (P : Result A E → Type 0) (r : Result A E) → IsErrAnd r (λ e. e ≡ why) → P (Err why) → P r
handed P r e h =
    let x = err_from_is_err_and r e in
    subst P (sym (x.1 ∙ ap Err x.2)) h

pub told : {A : Type 0} {p : Outcome A} (x : Result A Refusal) (a : A) → outcome x ≡ p → x ≡ Ok a → p ≡ given a
told x a q e = sym q ∙ ap outcome e

-- a refused call has left the memory as it was
pub left : {A : Type 0} (x : Result A Refusal) (why : Refusal) (xs : List ℕ) (P : Type 0) → x ≡ Err why → Left (outcome x) xs xs P
left {A} x why xs P e = subst (λ (y : Result A Refusal). Left (outcome y) xs xs P) (sym e) refl

-- memory is settled where an answer is, if what the call writes is
pub left-once : {A : Type 0} (P : List ℕ → Type 0) (o : Outcome A) (xs ys zs : List ℕ) → (P ys → P zs → ys ≡ zs)
    → Left o xs ys (P ys) → Left o xs zs (P zs) → ys ≡ zs
left-once P (given a) xs ys zs once h k = once h k
left-once P (refused n) xs ys zs once h k = h ∙ sym k

-- a contract settles answer and memory: any two results that it allows are the same
abbrev pub Settled : {R : Type 0} → (R → List ℕ → Type 0) → Type 0
Settled {R} C = (a b : R) (ys zs : List ℕ) → C a ys → C b zs → (a ≡ b) × (ys ≡ zs)

-- of an answer of any type that is settled by what `of` reads of it
module _ {R A : Type 0} (of : R → Outcome A) (only : (a b : R) → of a ≡ of b → a ≡ b) (o : Outcome A) (xs : List ℕ) where
  pub settled-by : (P : List ℕ → Type 0) → ((ys zs : List ℕ) → P ys → P zs → ys ≡ zs) → Settled (DoesBy of o xs P)
  settled-by P once a b ys zs h k = (
    only a b (h.0 ∙ sym k.0),
    left-once P (of a) xs ys zs (once ys zs) h.1 (subst (λ (r : Outcome A). Left r xs zs (P zs)) (k.0 ∙ sym h.0) k.1),
  )

  -- of a call that writes f to the n places from `at` on
  pub settled-written-by : (f : ℕ → ℕ) (at n : ℕ) → Settled (DoesBy of o xs (λ ys. Written f xs ys at n))
  settled-written-by f at n = settled-by (λ ys. Written f xs ys at n) (λ ys zs u v. written_once u v)

-- of a call that writes f to them and tells whether they are all 0 now: what it tells of the bytes is so of f
module _ {R : Type 0} (of : R → Outcome Bool) (xs : List ℕ) (f : ℕ → ℕ) (at n : ℕ) where
  by-rule : (o : Outcome (Unit {0})) (r : R) (ys : List ℕ) → TellsBy of o xs f at n r ys → of r ≡ before o (given (all_zero f n))
  by-rule (given _) r ys u =
      let w = subst (λ (p : Outcome Bool). Left p xs ys (Written f xs ys at n)) u.0 u.1 in
      u.0 ∙ ap given (sym (zero-written w))
  by-rule (refused k) r ys u = u.0

  pub settled-told-by : ((a b : R) → of a ≡ of b → a ≡ b) → (o : Outcome (Unit {0})) → Settled (TellsBy of o xs f at n)
  settled-told-by only o a b ys zs u v =
      settled-written-by of only (before o (given (all_zero f n))) xs f at n a b ys zs (by-rule o a ys u, u.1) (by-rule o b zs v, v.1)

-- the three of the answers that calls give
module _ {A : Type 0} (o : Outcome A) (xs : List ℕ) where
  pub settled : (P : List ℕ → Type 0) → ((ys zs : List ℕ) → P ys → P zs → ys ≡ zs) → Settled (Does o xs P)
  settled = settled-by outcome outcome-only o xs

  pub settled-written : (f : ℕ → ℕ) (at n : ℕ) → Settled (Does o xs (λ ys. Written f xs ys at n))
  settled-written = settled-written-by outcome outcome-only o xs

pub settled-told : (xs : List ℕ) (f : ℕ → ℕ) (at n : ℕ) (o : Outcome (Unit {0})) → Settled (Tells o xs f at n)
settled-told xs f at n = settled-told-by outcome xs f at n outcome-only
