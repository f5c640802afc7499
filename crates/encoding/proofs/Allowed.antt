-- What is known where a symbol may be encoded, and that it then is; and the symbol of an ESI by its walk.
-- Assumes nothing.
use mathlib.Core.Path.{◌≡◌, ap, ◌∙◌, subst}
use mathlib.Core.Bool.{not}
use mathlib.Core.List.{List}
use Prim.Native.Nat.{ℕ, ◌+◌, ◌*◌, ◌<◌, ◌≤◌}
use native.Mathlib.Omega.{arith}
use borrow.Author.Tests.{ltb-false, leb-false, eqb-true, eqb-false, not-false, le-ltb, le-leb, lt-leb, eq-eqb, ne_eqb}
use lib.Dec.{eqb, leb, ltb}
use lib.ListN.{length}
use Rattle.field.specs.Answer.{Outcome, outcome, given, unless}
use Rattle.std.specs.Prelude.{Result}
use Rattle.field.specs.Runs.{Written}
use Rattle.field.proofs.Refusals.{passed}
use Rattle.field.specs.declared.refusal.Refusal.{Refusal}
use Rattle.headers.specs.Row.{Obeys, between, l_of, p_of, p1_of}
use Rattle.headers.specs.Tuples.{tuple_of}
use Rattle.headers.specs.declared.row.Row.{Row}
use Rattle.headers.specs.declared.tuple.Tuple.{Tuple}
use Rattle.headers.proofs.Rules.{obeyed, passed-row}
use Rattle.headers.proofs.Accepted.{l-is}
use Rattle.headers.proofs.Tests.{tells_both, tells-le}
use Rattle.constraints.specs.Encoding.{enc}
use Rattle.constraints.specs.Walk.{places}
use Rattle.constraints.proofs.Rows.{tuple_in}
use Rattle.encoding.specs.Encoded.{Encodes, allowed, encoded, walked}

pub record Allowed (r : Row) (tables k t esi have room : ℕ) : Type 0 where
  pub rules : Obeys r
  pub all : tables ≡ 1024
  pub k-low : 1 ≤ k
  pub k-high : k ≤ r.kp
  pub esi-24 : esi < 16777216
  pub some : t ≡ 0 → ⊥
  pub enough : l_of r * t ≤ have
  pub fits : t ≤ room

pub allowed-well : (r : Row) (tables k t esi have room : ℕ) → allowed r tables k t esi have room ≡ given tt → Allowed r tables k t esi have room
allowed-well r tables k t esi have room e =
    let o8 : Outcome (Unit {0}) = unless (ltb room t) 8 (given tt) in
    let o7 : Outcome (Unit {0}) = unless (ltb have (l_of r * t)) 8 o8 in
    let o6 : Outcome (Unit {0}) = unless (eqb t 0) 10 o7 in
    let o5 : Outcome (Unit {0}) = unless (leb 16777216 esi) 9 o6 in
    let o4 : Outcome (Unit {0}) = unless (not (between 1 k r.kp)) 9 o5 in
    let p1 = passed-row (unless (not (eqb tables 1024)) 5 o4) tt e in
    let p2 = passed (not (eqb tables 1024)) 5 o4 tt p1.1 in
    let p4 = passed (not (between 1 k r.kp)) 9 o5 tt p2.1 in
    let p5 = passed (leb 16777216 esi) 9 o6 tt p4.1 in
    let p6 = passed (eqb t 0) 10 o7 tt p5.1 in
    let p7 = passed (ltb have (l_of r * t)) 8 o8 tt p6.1 in
    let p8 = passed (ltb room t) 8 (given tt) tt p7.1 in
    let b = (tells_both (tells-le 1 k) (tells-le k r.kp)).passes (not-false (between 1 k r.kp) p4.0) in
    record {
      rules = p1.0;
      all = eqb-true tables 1024 (not-false (eqb tables 1024) p2.0);
      k-low = b.0;
      k-high = b.1;
      esi-24 = omega (arith, leb-false 16777216 esi p5.0);
      some = eqb-false t 0 p6.0;
      enough = ltb-false have (l_of r * t) p7.0;
      fits = ltb-false room t p8.0;
    }

-- and the other way round
allowed-is : {r : Row} {tables k t esi have room : ℕ} → Allowed r tables k t esi have room → allowed r tables k t esi have room ≡ given tt
allowed-is {r} {tables} {k} {t} {esi} {have} {room} h =
    rw (
      obeyed h.rules,
      eq-eqb tables 1024 h.all,
      le-leb 1 k h.k-low,
      le-leb k r.kp h.k-high,
      lt-leb 16777216 esi h.esi-24,
      ne_eqb t 0 h.some,
      le-ltb have (l_of r * t) h.enough,
      le-ltb room t h.fits,
    )

-- so a call that may encode is not refused
pub encodes-done : {v : List ℕ} {r : Row} {k t esi : ℕ} {C xs ys : List ℕ} {a : Result (Unit {0}) Refusal}
    → Allowed r (length v) k t esi (length C) (length xs)
    → Encodes v r k t esi C xs ys a → outcome a ≡ given tt
encodes-done h u = u.answer ∙ allowed-is h

-- the tuple that was generated, from what its makers promise
pub tuple_is : (v : List ℕ) (r : Row) {z : Tuple} {p1 x y : ℕ} → z ≡ tuple_of v r.j r.w p1 x → p1 ≡ p1_of r → x ≡ y → z ≡ tuple_in v r y
tuple_is v r {x = x} e f g = e ∙ ap (λ (q : ℕ). tuple_of v r.j r.w q x) f ∙ ap (tuple_in v r) g

-- the sum over the walk is that over the row
pub encoded-walk : {r : Row} → Obeys r → (v : List ℕ) (x t : ℕ) (C : List ℕ) {z : Tuple} {p p1 : ℕ} {xs ys : List ℕ}
    → z ≡ tuple_in v r x → p ≡ p_of r → p1 ≡ p1_of r
    → Written (walked t C (r.w + p) (places r.w p p1 z)) xs ys 0 t → Written (encoded v r x t C) xs ys 0 t
unfolding enc
encoded-walk {r} o v x t C {z} {p} {p1} e f g w =
    let l : r.w + p ≡ l_of r = omega (arith, f, l-is o) in
    rw (l, f, g, e) at w
