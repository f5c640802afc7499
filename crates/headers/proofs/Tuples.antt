-- What the generator draws is the tuple; it is within its bounds; and d1 is 3 only when d is below 4, so that the two are 32 together at most.
-- Assumes nothing.
use Rattle.std.proofs.Common.{◌≡◌, ℕ, ◌+◌, ◌-◌, ◌*◌, ◌<◌, ◌≤◌, Bool, true, false, not, eqb, ltb, List, length, sym, subst, mod-lt, mul-le-mul, arith, le-ltb, eqb-true}
use native.Mathlib.Decide.{dec_lt, ℕ_discrete}
use borrow.Author.Tests.{not-false}
use Rattle.field.specs.Choice.{pick}
use Rattle.field.specs.Answer.{given, unless}
use Rattle.field.proofs.Answers.{given-only}
use Rattle.field.proofs.Refusals.{passed}
use Rattle.headers.specs.Rand.{mixed, random}
use Rattle.headers.specs.Degree.{degree}
use Rattle.headers.specs.Tuples.{seed, pi_degree, tuple_of, Bounds, Ready, tuple_answer}
use Rattle.headers.specs.Row.{Obeys, p1_of}
use Rattle.headers.specs.declared.row.Row.{Row}
use Rattle.headers.specs.declared.tuple.Tuple.{Tuple}
use Rattle.headers.proofs.Rules.{passed-row}
use Rattle.headers.proofs.Accepted.{ready}
use Rattle.headers.proofs.Rising.{degree-high, degree-low, degree-w}

pub random-lt : (v : List ℕ) (y i m : ℕ) → 0 < m → random v y i m < m
unfolding random
random-lt v y i m h = mod-lt (mixed v y i) h

-- the product of a seed fits 64 bits
pub product : (x a : ℕ) → x < 4294967296 → a < 65536000 → x * a < 281474976710656000
product x a hx ha = omega (arith, mul-le-mul {n₁ = x} {m₁ = a} {n₂ = 4294967295} {m₂ = 65536000} (omega arith) (omega arith))

pi-bounds : (b : Bool) (n : ℕ) → n < 2 → (2 ≤ pick b (2 + n) 2) × (pick b (2 + n) 2 ≤ 3)
pi-bounds true n h = (omega arith, omega arith)
pi-bounds false n h = (omega arith, omega arith)

pub pi-degree-bounds : (v : List ℕ) (d x : ℕ) → (2 ≤ pi_degree v d x) × (pi_degree v d x ≤ 3)
unfolding pi_degree
pi-degree-bounds v d x = pi-bounds (ltb d 4) (random v x 3 2) (random-lt v x 3 2 (omega arith))

pi-degree-three : (v : List ℕ) (d x : ℕ) → pi_degree v d x ≡ 3 → d < 4
unfolding pi_degree
pi-degree-three v d x e = go (dec_lt d 4)
  where
    go : Dec (d < 4) → d < 4
    go (yes l) = l
    go (no l) = let n : ◌≡◌ {A = ℕ} 2 3 = rw (le-ltb d 4 (omega arith)) at e in absurd (omega arith)

pi-degree-high : (v : List ℕ) (d x : ℕ) → d ≤ 30 → d + pi_degree v d x ≤ 32
pi-degree-high v d x h = go (ℕ_discrete (pi_degree v d x) 3)
  where
    go : Dec (pi_degree v d x ≡ 3) → d + pi_degree v d x ≤ 32
    go (yes e) = omega (arith, pi-degree-three v d x e)
    go (no n) = omega (arith, (pi-degree-bounds v d x).1)

-- what is drawn, field by field
pub drawn : (v : List ℕ) (j w p1 x : ℕ) {y r d a b d1 a1 b1 : ℕ} → y ≡ seed j x → r ≡ random v y 0 1048576 → d ≡ degree r w
    → a ≡ random v y 1 (w - 1) → b ≡ random v y 2 w → d1 ≡ pi_degree v d x → a1 ≡ random v x 4 (p1 - 1) → b1 ≡ random v x 5 p1
    → ◌≡◌ {A = Tuple} (record { d = d; a = 1 + a; b = b; d1 = d1; a1 = 1 + a1; b1 = b1 }) (tuple_of v j w p1 x)
unfolding tuple_of
drawn v j w p1 x {y} {r} {d} {a} {b} {d1} {a1} {b1} ey er ed ea eb ed1 ea1 eb1 = rw (ed1, ea, eb, ea1, eb1, ed, er, ey)

-- a tuple of the generator is within the bounds
pub bounded : {v : List ℕ} {j w p1 : ℕ} → Ready v j w p1 → (x : ℕ) → Bounds w p1 (tuple_of v j w p1 x)
unfolding tuple_of
bounded {v} {j} {w} {p1} h x =
    let y = seed j x in
    let n = random v y 0 1048576 in
    let l : n < 1048576 = random-lt v y 0 1048576 (omega arith) in
    record {
      d-low = degree-low n w l h.w-low;
      d-high = degree-high n w l;
      d-w = degree-w n w;
      a-low = omega arith;
      a-high = omega (arith, random-lt v y 1 (w - 1) (omega (arith, h.w-low)));
      b-high = random-lt v y 2 w (omega (arith, h.w-low));
      d1-low = (pi-degree-bounds v (degree n w) x).0;
      d1-high = (pi-degree-bounds v (degree n w) x).1;
      a1-low = omega arith;
      a1-high = omega (arith, random-lt v x 4 (p1 - 1) (omega (arith, h.p1-low)));
      b1-high = random-lt v x 5 p1 (omega (arith, h.p1-low));
    }

-- d1 is 3 only when d is below 4
pub three-below-four : (v : List ℕ) (j w p1 x : ℕ) → (tuple_of v j w p1 x).d1 ≡ 3 → (tuple_of v j w p1 x).d < 4
unfolding tuple_of
three-below-four v j w p1 x = pi-degree-three v (degree (random v (seed j x) 0 1048576) w) x

-- so 30 and 3 never meet, whatever the tables and the numbers: d and d1 are 32 together at most
pub degrees-high : (v : List ℕ) (j w p1 x : ℕ) → (tuple_of v j w p1 x).d + (tuple_of v j w p1 x).d1 ≤ 32
unfolding tuple_of
degrees-high v j w p1 x =
    let n = random v (seed j x) 0 1048576 in
    pi-degree-high v (degree n w) x (degree-high n w (random-lt v (seed j x) 0 1048576 (omega arith)))

-- what the generator's answer tells
module _ (r : Row) (v : List ℕ) (x : ℕ) (t : Tuple) (e : given t ≡ tuple_answer r v x) where
  pub generated : (Obeys r) × (length v ≡ 1024) × (t ≡ tuple_of v r.j r.w (p1_of r) x)
  generated =
      let rest = given (tuple_of v r.j r.w (p1_of r) x) in
      let p = passed-row (unless (not (eqb (length v) 1024)) 5 rest) t (sym e) in
      let q = passed (not (eqb (length v) 1024)) 5 rest t p.1 in (
        p.0,
        eqb-true (length v) 1024 (not-false (eqb (length v) 1024) q.0),
        given-only t (tuple_of v r.j r.w (p1_of r) x) (sym q.1),
      )

  pub generated-bounds : Bounds r.w (p1_of r) t
  generated-bounds =
      let g = generated in
      subst (Bounds r.w (p1_of r)) (sym g.2) (bounded (ready g.0 g.1) x)

  pub generated-three : t.d1 ≡ 3 → t.d < 4
  generated-three =
      subst (λ (u : Tuple). u.d1 ≡ 3 → u.d < 4) (sym generated.2) (three-below-four v r.j r.w (p1_of r) x)

  pub generated-high : t.d + t.d1 ≤ 32
  generated-high =
      subst (λ (u : Tuple). u.d + u.d1 ≤ 32) (sym generated.2) (degrees-high v r.j r.w (p1_of r) x)
