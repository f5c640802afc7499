-- What the rules of a row imply, and what the answer of a check tells.
-- Assumes nothing.
use Rattle.std.proofs.Common.{◌≡◌, ℕ, ◌+◌, ◌*◌, ◌%◌, ◌<◌, ◌≤◌, List, length, sym, refl, ap, subst, arith}
use native.Mathlib.Decide.{ℕ_discrete}
use Rattle.field.specs.Answer.{Outcome, given, refused, before, code_of, place_of}
use Rattle.field.specs.declared.refusal.Part.{Part}
use Rattle.field.specs.declared.refusal.Part.TheVariants as Parts
use Rattle.field.specs.declared.refusal.Refusal.TheVariants as Why
use Rattle.field.proofs.Answers.{given-only, refused-only, given-not-refused, place-high}
use Rattle.field.proofs.Refusals.{passed-before}
use Rattle.headers.specs.Prime.{Prime, FirstFrom, clear}
use Rattle.headers.specs.Row.{Obeys, Derived, Rule, Refuses, verified, l_of, p_of, b_of, p1_of, completed, checked, row_checked}
use Rattle.headers.specs.Tuples.{Ready}
use Rattle.headers.specs.declared.row.Row.{Row}
use Rattle.headers.proofs.Tests.{is-test}
use Rattle.headers.proofs.Primes.{trial, clear-tells, first-from, first-high}
use Rattle.headers.proofs.Rules.{obeyed, obeying, rule-of, first-broken, broken-first}

-- the last P1 there is
highest : Prime 56659
unfolding clear
highest = trial 56659 239 (omega arith) (omega arith) ((clear-tells 56659 237).passes (is-test (clear 56659 237) tt))

-- laws of a row that obeys its rules
module _ {r : Row} (o : Obeys r) where
  pub s-below-w : r.s < r.w
  s-below-w = omega (arith, o.b-low)

  not-4 : r.w ≡ 4 → ⊥
  not-4 e = o.w-prime.alone 2 (omega arith) (omega arith) (ap (λ (n : ℕ). n % 2) e)

  pub w-low : 5 ≤ r.w
  w-low = go (ℕ_discrete r.w 4)
    where
      go : Dec (r.w ≡ 4) → 5 ≤ r.w
      go (yes e) = absurd (not-4 e)
      go (no e) = omega (arith, o.b-low, o.ranges.s-low)

  pub w-odd : r.w % 2 ≡ 1
  w-odd = go (ℕ_discrete (r.w % 2) 0)
    where
      go : Dec (r.w % 2 ≡ 0) → r.w % 2 ≡ 1
      go (yes e) = absurd (o.w-prime.alone 2 (omega (arith, w-low)) (omega arith) e)
      go (no e) = omega arith

  pub b-even : b_of r % 2 ≡ 0
  b-even = omega (arith, w-odd, o.ranges.s-odd, s-below-w)

  -- the LT and PI symbols are all there are
  pub l-is : l_of r ≡ r.w + p_of r
  l-is = omega (arith, o.p-low)

  pub l-low : 8 ≤ l_of r
  l-low = omega (arith, o.p-low, w-low)

  pub p-high : p_of r ≤ 56656
  p-high = omega (arith, b-even, s-below-w, o.ranges.kp-high, o.ranges.h-high)

  pub p1-first : FirstFrom (p_of r) (p1_of r)
  p1-first = first-from (p_of r) (omega (arith, p-high))

  pub p1-prime : Prime (p1_of r)
  p1-prime = p1-first.prime

  pub p-p1 : p_of r ≤ p1_of r
  p-p1 = p1-first.least

  pub p1-low : 3 ≤ p1_of r
  p1-low = omega (arith, p-p1, o.p-low)

  pub p1-high : p1_of r ≤ 56659
  p1-high = first-high p1-first (omega (arith, p-high)) highest

  -- what the generator of tuples asks
  pub ready : {v : List ℕ} → length v ≡ 1024 → Ready v r.j r.w (p1_of r)
  ready e = record { tables = e; j-16 = o.ranges.j-16; w-low = omega (arith, w-low); p1-low = omega (arith, p1-low) }

  -- the same of the numbers that the record carries
  pub own-ready : {v : List ℕ} → length v ≡ 1024 → Ready v r.j r.w r.p1
  own-ready e = rw o.derived.p1-fits (ready e)

  pub own-l : r.l ≡ r.w + r.p
  own-l = omega (arith, o.derived.l-fits, o.derived.p-fits, l-is)

  pub own_room : (n m : ℕ) → n * l_of r ≤ m → n * r.l ≤ m
  own_room n m h = rw o.derived.l-fits h

-- a record that carries the numbers that follow from its five is complete
pub complete : {r : Row} → Derived r → r ≡ completed r
complete {r} d = rw (d.l-fits, d.p-fits, d.b-fits, d.p1-fits)

-- the nine rules of the five numbers ask nothing of the other four
pub of-five : {r : Row} → Obeys r → Obeys (completed r)
of-five o =
    record {
      ranges = o.ranges;
      w-prime = o.w-prime;
      b-low = o.b-low;
      p-low = o.p-low;
      b-high = o.b-high;
      l-high = o.l-high;
      derived = record { l-fits = refl; p-fits = refl; b-fits = refl; p1-fits = refl };
    }

pub with-derived : {r : Row} → Obeys (completed r) → Derived r → Obeys r
with-derived o d =
    record {
      ranges = o.ranges;
      w-prime = o.w-prime;
      b-low = o.b-low;
      p-low = o.p-low;
      b-high = o.b-high;
      l-high = o.l-high;
      derived = d;
    }

-- The same, rule by rule; so what is wrong with five numbers is wrong with any record of them.
module _ (r : Row) where
  own-rule : (part : Part) → place_of part < 10 → Rule (completed r) part → Rule r part
  own-rule Parts.Wide h a = a
  own-rule Parts.Kp h a = a
  own-rule Parts.S h a = a
  own-rule Parts.H h a = a
  own-rule Parts.W h a = a
  own-rule Parts.B h a = a
  own-rule Parts.P h a = a
  own-rule Parts.Ldpc h a = a
  own-rule Parts.L h a = a
  own-rule Parts.Derived h a = absurd (omega arith)

  five-rule : (part : Part) → Rule r part → Rule (completed r) part
  five-rule Parts.Wide a = a
  five-rule Parts.Kp a = a
  five-rule Parts.S a = a
  five-rule Parts.H a = a
  five-rule Parts.W a = a
  five-rule Parts.B a = a
  five-rule Parts.P a = a
  five-rule Parts.Ldpc a = a
  five-rule Parts.L a = a
  five-rule Parts.Derived a = record { l-fits = refl; p-fits = refl; b-fits = refl; p1-fits = refl }

  pub five-refused : (part : Part) → Refuses (completed r) part → Refuses r part
  five-refused part e =
      let f = first-broken (completed r) part e in
      broken-first r part
      (record {
        earlier = λ other h. own-rule other (omega (arith, h, place-high part)) (f.earlier other h);
        breaks = λ a. f.breaks (five-rule part a);
      })

  -- the nine rules of the five numbers hold, and the tenth does not
  pub breaks-derived : Obeys (completed r) → (Derived r → ⊥) → Refuses r Parts.Derived
  breaks-derived o n = broken-first r Parts.Derived (record { earlier = λ other h. own-rule other h (rule-of o other); breaks = n })

-- what the check answers of a record that it made, and what its answer tells
module _ (r : Row) where
  pub refused-row : (part : Part) → Refuses r part → refused (code_of (Why.BadRow part)) ≡ checked r
  refused-row part e = sym (ap (λ (o : Outcome (Unit {0})). before o (given r)) e)

  pub made_row : {x : Row} → x ≡ r → Obeys r → given x ≡ checked r
  made_row e o = simp (obeyed o) (ap given e)

  pub accepted : (x : Row) → given x ≡ checked r → (Obeys r) × (x ≡ r)
  accepted x e =
      let p = passed-before (verified r) (given r) x (sym e) in
      (obeying p.1, given-only x r (sym p.2))

  pub rejected : (n : ℕ) → refused n ≡ checked r → verified r ≡ refused n
  rejected n = go (verified r)
    where
      go : (o : Outcome (Unit {0})) → refused n ≡ before o (given r) → o ≡ refused n
      go (given a) e = absurd (given-not-refused r n (sym e))
      go (refused m) e = ap refused (refused-only m n (sym e))

  -- a record is accepted exactly when it is what the check makes of its five numbers
  pub obeys-made : Obeys r → row_checked r.kp r.j r.s r.h r.w ≡ given r
  obeys-made o = simp (obeyed (of-five o)) (ap given (sym (complete o.derived)))

pub made-obeys : (r : Row) → row_checked r.kp r.j r.s r.h r.w ≡ given r → Obeys r
made-obeys r e =
    let a = accepted (completed r) r (sym e) in
    subst Obeys (sym a.1) a.0
