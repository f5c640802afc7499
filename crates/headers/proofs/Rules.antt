-- The rules of a row: the tests decide them, the walk over them takes what it took before parts were told, and a refusal's part is the first rule that
-- breaks (document 02, E7).
-- Assumes nothing.
use Rattle.std.proofs.Common.{◌≡◌, ℕ, zero, suc, ◌+◌, ◌-◌, ◌%◌, ◌<◌, ◌≤◌, Bool, true, false, not, eqb, leb, List, [], ◌∷◌, length, sym, refl, ap, ◌∙◌, arith}
use native.Mathlib.Decide.{dec_lt}
use Rattle.field.specs.Answer.{Outcome, given, refused, unless, before, coded, code_of, number_in, place_of}
use Rattle.field.specs.Choice.{both}
use Rattle.field.specs.declared.refusal.Part.{Part}
use Rattle.field.specs.declared.refusal.Part.TheVariants as Parts
use Rattle.field.specs.declared.refusal.Refusal.TheVariants as Why
use Rattle.field.proofs.Answers.{refused-only, given-not-refused, part_named, place-named, place-low, place-high, place-only}
use Rattle.field.proofs.Refusals.{passed-before}
use Rattle.headers.specs.Prime.{Prime}
use Rattle.headers.specs.Row.{Ranges, Derived, Obeys, obeys, between, sixteen, fitting, rules, all, walk, verified, Refuses, Rule, FirstBroken}
use Rattle.headers.specs.Row.{bands, l_of, p_of, b_of, p1_of}
use Rattle.headers.specs.declared.row.Row.{Row}
use Rattle.headers.proofs.Tests.{Tells, tells_both, tells_as, tells-le, tells-lt, tells-eq, is_true, is_false, tells-true}
use Rattle.headers.proofs.Primes.{prime-tells}

within : (low n high : ℕ) → Tells (between low n high) ((low ≤ n) × (n ≤ high))
within low n high = tells_both (tells-le low n) (tells-le n high)

small : (r : Row) → Tells (sixteen r) ((r.kp < 65536) × ((r.j < 65536) × ((r.s < 65536) × ((r.h < 65536) × (r.w < 65536)))))
small r =
    tells_both (tells-lt r.kp 65536) (tells_both (tells-lt r.j 65536) (tells_both (tells-lt r.s 65536)
    (tells_both (tells-lt r.h 65536) (tells-lt r.w 65536))))

fits : (r : Row) → Tells (fitting r) ((r.l ≡ l_of r) × ((r.p ≡ p_of r) × ((r.b ≡ b_of r) × (r.p1 ≡ p1_of r))))
fits r = tells_both (tells-eq r.l (l_of r)) (tells_both (tells-eq r.p (p_of r)) (tells_both (tells-eq r.b (b_of r)) (tells-eq r.p1 (p1_of r))))

derived-tells : (r : Row) → Tells (fitting r) (Derived r)
derived-tells r =
    tells_as (λ d. record { l-fits = d.0; p-fits = d.1.0; b-fits = d.1.1.0; p1-fits = d.1.1.1 })
    (λ d. (d.l-fits, (d.p-fits, (d.b-fits, d.p1-fits)))) (fits r)

-- the tests decide the rules
pub obeys-tells : (r : Row) → Tells (obeys r) (Obeys r)
unfolding obeys
obeys-tells r =
    tells_as
    (λ t. record {
      ranges =
          record {
            kp-16 = t.0.0;
            j-16 = t.0.1.0;
            s-16 = t.0.1.1.0;
            h-16 = t.0.1.1.1.0;
            w-16 = t.0.1.1.1.1;
            kp-low = t.1.0.0;
            kp-high = t.1.0.1;
            s-odd = t.1.1.0.0;
            s-low = t.1.1.0.1;
            h-low = t.1.1.1.0.0;
            h-high = t.1.1.1.0.1;
          };
      w-prime = t.1.1.1.1.0;
      b-low = t.1.1.1.1.1.0;
      p-low = t.1.1.1.1.1.1.0;
      b-high = t.1.1.1.1.1.1.1.0;
      l-high = t.1.1.1.1.1.1.1.1.0;
      derived = t.1.1.1.1.1.1.1.1.1.0;
    })
    (λ o. let n = o.ranges in (
      (n.kp-16, (n.j-16, (n.s-16, (n.h-16, n.w-16)))),
      (
        (n.kp-low, n.kp-high),
        (
          (n.s-odd, n.s-low),
          (
            (n.h-low, n.h-high),
            (
              o.w-prime,
              (
                o.b-low,
                (
                  o.p-low,
                  (
                    o.b-high,
                    (
                      o.l-high,
                      (o.derived, refl),
                    ),
                  ),
                ),
              ),
            ),
          ),
        ),
      ),
    ))
    (tells_both (small r) (tells_both (within 1 r.kp 56403) (tells_both (tells_both (tells-eq (r.s % 2) 1) (tells-le 3 r.s))
    (tells_both (within 2 r.h 255) (tells_both (prime-tells r.w) (tells_both (tells-le 1 (b_of r)) (tells_both (tells-le 3 (p_of r))
    (tells_both (tells-lt (bands r) r.s) (tells_both (tells-le (l_of r) 65535) (tells_both (derived-tells r) tells-true))))))))))

-- a row obeys where the rule of each part holds
pub rule-of : {r : Row} → Obeys r → (part : Part) → Rule r part
rule-of o Parts.Wide = let n = o.ranges in (n.kp-16, (n.j-16, (n.s-16, (n.h-16, n.w-16))))
rule-of o Parts.Kp = (o.ranges.kp-low, o.ranges.kp-high)
rule-of o Parts.S = (o.ranges.s-odd, o.ranges.s-low)
rule-of o Parts.H = (o.ranges.h-low, o.ranges.h-high)
rule-of o Parts.W = o.w-prime
rule-of o Parts.B = o.b-low
rule-of o Parts.P = o.p-low
rule-of o Parts.Ldpc = o.b-high
rule-of o Parts.L = o.l-high
rule-of o Parts.Derived = o.derived

-- ---- the walk

-- whether an outcome is no refusal
abbrev accepts : Outcome (Unit {0}) → Bool
accepts (given a) = true
accepts (refused n) = false

walk-accepts : (place : ℕ) (bs : List Bool) → accepts (walk place bs) ≡ all bs
walk-accepts place [] = refl
walk-accepts place (true ∷ bs) = walk-accepts (suc place) bs
walk-accepts place (false ∷ bs) = refl

-- A row is accepted exactly as before: the walk refuses nothing where the rules, all of them, say yes.
pub as_before : (r : Row) → accepts (verified r) ≡ obeys r
unfolding obeys verified
as_before r = walk-accepts 1 (rules r)

-- an outcome with numbers alone
abbrev pub plain : {A : Type 0} → Outcome A → Outcome A
plain (given a) = given a
plain (refused n) = refused (number_in n)

walk-plain : (place : ℕ) (bs : List Bool) → plain (walk place bs) ≡ unless (not (all bs)) 4 (given tt)
walk-plain place [] = refl
walk-plain place (true ∷ bs) = walk-plain (suc place) bs
walk-plain place (false ∷ bs) = let e : number_in (coded 4 place) ≡ 4 = omega arith in ap refused e

-- With its parts left out the walk answers as the test of all rules did, by 4, and so does every chain of refusals that begins with it.
pub without-parts : (r : Row) → plain (verified r) ≡ unless (not (obeys r)) 4 (given tt)
unfolding obeys verified
without-parts r = walk-plain 1 (rules r)

pub chain-without-parts : {A : Type 0} (r : Row) (o : Outcome A) → plain (before (verified r) o) ≡ unless (not (obeys r)) 4 (plain o)
chain-without-parts {A} r o = go (verified r) (obeys r) (without-parts r)
  where
    go : (x : Outcome (Unit {0})) (b : Bool) → plain x ≡ unless (not b) 4 (given tt) → plain (before x o) ≡ unless (not b) 4 (plain o)
    go (given a) true e = refl
    go (given a) false e = absurd (given-not-refused a 4 e)
    go (refused n) true e = absurd (given-not-refused tt (number_in n) (sym e))
    go (refused n) false e = ap refused (refused-only (number_in n) 4 e)

accepted-is : (o : Outcome (Unit {0})) → accepts o ≡ true → o ≡ given tt
accepted-is (given tt) e = refl
accepted-is (refused n) e = absurd (let z : ◌≡◌ {A = ℕ} 0 1 = cc in omega arith)

pub obeyed : {r : Row} → Obeys r → verified r ≡ given tt
obeyed {r} o = accepted-is (verified r) (as_before r ∙ is_true (obeys-tells r) o)

pub obeying : {r : Row} → verified r ≡ given tt → Obeys r
obeying {r} e = (obeys-tells r).passes (sym (as_before r) ∙ ap accepts e)

-- past the walk in a chain of refusals
pub passed-row : {A : Type 0} {r : Row} (o : Outcome A) (a : A) → before (verified r) o ≡ given a → (Obeys r) × (o ≡ given a)
passed-row {r = r} o a e = let p = passed-before (verified r) o a e in (obeying p.1, p.2)

pub refused-disobeys : {r : Row} {n : ℕ} → verified r ≡ refused n → Obeys r → ⊥
refused-disobeys {r} {n} e o = given-not-refused tt n (sym (obeyed o) ∙ e)

-- ---- the part is the first rule that breaks

-- the test in a place, from 0 on
abbrev test : List Bool → ℕ → Bool
test [] i = true
test (b ∷ bs) zero = b
test (b ∷ bs) (suc i) = test bs i

rule-tells : (r : Row) (part : Part) → Tells (test (rules r) (place_of part - 1)) (Rule r part)
rule-tells r Parts.Wide = small r
rule-tells r Parts.Kp = within 1 r.kp 56403
rule-tells r Parts.S = tells_both (tells-eq (r.s % 2) 1) (tells-le 3 r.s)
rule-tells r Parts.H = within 2 r.h 255
rule-tells r Parts.W = prime-tells r.w
rule-tells r Parts.B = tells-le 1 (b_of r)
rule-tells r Parts.P = tells-le 3 (p_of r)
rule-tells r Parts.Ldpc = tells-lt (bands r) r.s
rule-tells r Parts.L = tells-le (l_of r) 65535
rule-tells r Parts.Derived = derived-tells r

-- where a walk stops: the tests before hold, and that one does not
pub record Stops (bs : List Bool) (i : ℕ) : Type 0 where
  pub inside : i < length bs
  pub held : (j : ℕ) → j < i → test bs j ≡ true
  pub failed : test bs i ≡ false

walk-stops : (place : ℕ) (bs : List Bool) (n : ℕ) → walk place bs ≡ refused n → (i : ℕ) × ((n ≡ coded 4 (place + i)) × Stops bs i)
walk-stops place [] n e = absurd (given-not-refused tt n e)
walk-stops place (false ∷ bs) n e =
    let q : coded 4 place ≡ n = refused-only (coded 4 place) n e in
    (0, (omega arith, record { inside = omega arith; held = λ j h. absurd (omega arith); failed = refl }))
walk-stops place (true ∷ bs) n e =
    let w = walk-stops (suc place) bs n e in
    (suc w.0, (omega (arith, w.1.0), record { inside = omega (arith, w.1.1.inside); held = further w.1.1.held; failed = w.1.1.failed }))
  where
    further : {i : ℕ} → ((j : ℕ) → j < i → test bs j ≡ true) → (j : ℕ) → j < suc i → test (true ∷ bs) j ≡ true
    further h zero l = refl
    further h (suc j) l = h j (omega arith)

pub first-broken : (r : Row) (part : Part) → Refuses r part → FirstBroken r part
unfolding verified
first-broken r part e =
    let w = walk-stops 1 (rules r) (code_of (Why.BadRow part)) e in
    let i : w.0 ≡ place_of part - 1 = omega (arith, w.1.0) in
    record {
      earlier = λ other h. (rule-tells r other).passes (w.1.1.held (place_of other - 1) (omega (arith, w.1.0, place-low other)));
      breaks = (rule-tells r part).breaks (ap (test (rules r)) (sym i) ∙ w.1.1.failed);
    }

-- a row has one first broken rule
pub first-once : (r : Row) (p q : Part) → FirstBroken r p → FirstBroken r q → p ≡ q
first-once r p q a b = place-only p q (same (dec_lt (place_of p) (place_of q)) (dec_lt (place_of q) (place_of p)))
  where
    same : Dec (place_of p < place_of q) → Dec (place_of q < place_of p) → place_of p ≡ place_of q
    same (yes l) d = absurd (a.breaks (b.earlier p l))
    same (no l) (yes m) = absurd (b.breaks (a.earlier q m))
    same (no l) (no m) = omega arith

-- and one part
pub part-once : (r : Row) (p q : Part) → Refuses r p → Refuses r q → p ≡ q
part-once r p q a b = first-once r p q (first-broken r p a) (first-broken r q b)

stops-walk : (place : ℕ) (bs : List Bool) (i : ℕ) → Stops bs i → walk place bs ≡ refused (coded 4 (place + i))
stops-walk place [] i s = absurd (omega (arith, s.inside))
stops-walk place (b ∷ bs) zero s = let e : place ≡ place + 0 = omega arith in simp s.failed (ap (λ (n : ℕ). refused (coded 4 n)) e)
stops-walk place (b ∷ bs) (suc i) s =
    let e : suc place + i ≡ place + suc i = omega arith in
    let t : Stops bs i = record { inside = omega (arith, s.inside); held = λ j h. s.held (suc j) (omega arith); failed = s.failed } in
    let h : b ≡ true = s.held 0 (omega arith) in
    simp h (stops-walk (suc place) bs i t ∙ ap (λ (n : ℕ). refused (coded 4 n)) e)

-- and the first rule that breaks is the part of a refusal
pub broken-first : (r : Row) (part : Part) → FirstBroken r part → Refuses r part
unfolding verified
broken-first r part f =
    let e : 1 + (place_of part - 1) ≡ place_of part = omega (arith, place-low part) in
    stops-walk 1 (rules r) (place_of part - 1)
    (record {
      inside = omega (arith, place-low part, place-high part);
      held = λ j h. holds j h (place-named j (omega (arith, place-high part)));
      failed = is_false (rule-tells r part) f.breaks;
    })
    ∙ ap (λ (n : ℕ). refused (coded 4 n)) e
  where
    holds : (j : ℕ) → j < place_of part - 1 → place_of (part_named (suc j)) ≡ suc j → test (rules r) j ≡ true
    holds j h e =
        let q = part_named (suc j) in
        let i : j ≡ place_of q - 1 = omega (arith, e) in
        ap (test (rules r)) i ∙ is_true (rule-tells r q) (f.earlier q (omega (arith, e)))

-- B or P that would be negative: its own rule is the one that breaks
module _ (r : Row) where
  pub b-negative : ((part : Part) → place_of part < 6 → Rule r part) → r.w < r.s → Refuses r Parts.B
  b-negative h l = broken-first r Parts.B (record { earlier = h; breaks = λ b. omega (arith, b, l) })

  pub p-negative : ((part : Part) → place_of part < 7 → Rule r part) → l_of r < r.w → Refuses r Parts.P
  p-negative h l = broken-first r Parts.P (record { earlier = h; breaks = λ p. omega (arith, p, l) })

-- ---- a rule that breaks past those that hold, one law a part

module _ (r : Row) where
  yes-rule : (part : Part) → Rule r part → test (rules r) (place_of part - 1) ≡ true
  yes-rule part = is_true (rule-tells r part)

  no-rule : (part : Part) → (Rule r part → ⊥) → test (rules r) (place_of part - 1) ≡ false
  no-rule part = is_false (rule-tells r part)

  pub breaks-wide : (Rule r Parts.Wide → ⊥) → Refuses r Parts.Wide
  unfolding verified
  breaks-wide n = simp (no-rule Parts.Wide n)

  module _ (a : Rule r Parts.Wide) where
    pub breaks-kp : (Rule r Parts.Kp → ⊥) → Refuses r Parts.Kp
    unfolding verified
    breaks-kp n = simp (yes-rule Parts.Wide a, no-rule Parts.Kp n)

    pub breaks-s : Rule r Parts.Kp → (Rule r Parts.S → ⊥) → Refuses r Parts.S
    unfolding verified
    breaks-s b n = simp (yes-rule Parts.Wide a, yes-rule Parts.Kp b, no-rule Parts.S n)

    pub breaks-h : Rule r Parts.Kp → Rule r Parts.S → (Rule r Parts.H → ⊥) → Refuses r Parts.H
    unfolding verified
    breaks-h b c n = simp (yes-rule Parts.Wide a, yes-rule Parts.Kp b, yes-rule Parts.S c, no-rule Parts.H n)

  module _ (k : Ranges r.kp r.j r.s r.h r.w) where
    wide : sixteen r ≡ true
    wide = yes-rule Parts.Wide (k.kp-16, (k.j-16, (k.s-16, (k.h-16, k.w-16))))

    kp-in : between 1 r.kp 56403 ≡ true
    kp-in = yes-rule Parts.Kp (k.kp-low, k.kp-high)

    s-in : both (eqb (r.s % 2) 1) (leb 3 r.s) ≡ true
    s-in = yes-rule Parts.S (k.s-odd, k.s-low)

    h-in : between 2 r.h 255 ≡ true
    h-in = yes-rule Parts.H (k.h-low, k.h-high)

    pub breaks-w : (Prime r.w → ⊥) → Refuses r Parts.W
    unfolding verified
    breaks-w n = simp (wide, kp-in, s-in, h-in, no-rule Parts.W n)

    module _ (u : Prime r.w) where
      pub breaks-b : (1 ≤ b_of r → ⊥) → Refuses r Parts.B
      unfolding verified
      breaks-b n = simp (wide, kp-in, s-in, h-in, yes-rule Parts.W u, no-rule Parts.B n)

      module _ (b : 1 ≤ b_of r) where
        pub breaks-p : (3 ≤ p_of r → ⊥) → Refuses r Parts.P
        unfolding verified
        breaks-p n = simp (wide, kp-in, s-in, h-in, yes-rule Parts.W u, yes-rule Parts.B b, no-rule Parts.P n)

        module _ (p : 3 ≤ p_of r) where
          pub breaks-ldpc : (bands r < r.s → ⊥) → Refuses r Parts.Ldpc
          unfolding verified
          breaks-ldpc n = simp (wide, kp-in, s-in, h-in, yes-rule Parts.W u, yes-rule Parts.B b, yes-rule Parts.P p, no-rule Parts.Ldpc n)

          pub breaks-l : bands r < r.s → (l_of r ≤ 65535 → ⊥) → Refuses r Parts.L
          unfolding verified
          breaks-l c n =
              simp (wide, kp-in, s-in, h-in, yes-rule Parts.W u, yes-rule Parts.B b, yes-rule Parts.P p, yes-rule Parts.Ldpc c, no-rule Parts.L n)
