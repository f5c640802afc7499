-- The longest walks (document 02, E13). That of an ISI has 32 places at most, for every row, tables and ISI, and 32 are met. A caller's own tuple may
-- have 33, and enc_indices writes them where its list has them.
-- Assumes nothing.
use mathlib.Core.Path.{◌≡◌, refl, ◌∙◌, subst}
use mathlib.Core.List.{List, ◌++◌}
use Prim.Native.Nat.{ℕ, ◌+◌, ◌<◌, ◌≤◌}
use native.Mathlib.Omega.{arith}
use borrow.Author.Tests.{le-ltb}
use lib.ListN.{length, replicate}
use Rattle.std.specs.Prelude.{Result}
use Rattle.field.specs.Answer.{Outcome, Left, given, outcome}
use Rattle.field.specs.declared.refusal.Refusal.{Refusal}
use Rattle.headers.specs.Bytes.{Laid}
use Rattle.headers.specs.Degree.{climb, degree}
use Rattle.headers.specs.Prime.{clear, prime, seek, first_prime}
use Rattle.headers.specs.Quotient.{ceil}
use Rattle.headers.specs.Rand.{random}
use Rattle.headers.specs.Row.{Obeys, p1_of, row_of, verified}
use Rattle.headers.specs.Tuples.{Bounds, pi_degree, seed, tuple_of}
use Rattle.headers.specs.declared.row.Row.{Row}
use Rattle.headers.specs.declared.tuple.Tuple.{Tuple}
use Rattle.headers.proofs.Rules.{obeyed}
use Rattle.headers.proofs.Tests.{is_true}
use Rattle.headers.proofs.Tuples.{degrees-high}
use Rattle.constraints.specs.Answers.{Walked, places_of}
use Rattle.constraints.proofs.Accepted.{bounded_tells}
use Rattle.constraints.proofs.Rows.{places_count, tuple_in}

-- ---- the walk of an ISI

pub walk-high : (v : List ℕ) (r : Row) (x : ℕ) → length (places_of r (tuple_in v r x)) ≤ 32
walk-high v r x = omega (arith, places_count r (tuple_in v r x), degrees-high v r.j r.w (p1_of r) x)

-- a row of Table 2 with W = 37, the least prime with which d may be 30; and tables with which every degree is the highest
abbrev pub wide : Row
wide = row_of 26 80 11 10 37

abbrev pub highest : List ℕ
highest = replicate 256 1048575 ++ replicate 768 0

-- 31 places are too few
pub thirty-two-met : (verified wide ≡ given tt) × (length highest ≡ 1024) × (length (places_of wide (tuple_in highest wide 0)) ≡ 32)
unfolding verified clear prime seek first_prime ceil random climb degree pi_degree seed tuple_of
thirty-two-met = (refl, refl, places_count wide (tuple_in highest wide 0))

-- ---- a caller's own tuple

-- in an accepted row, within its bounds and with room for its walk, it is refused by nothing
pub walked-done : {r : Row} {t : Tuple} {xs ys : List ℕ} {a : Result ℕ Refusal} → Obeys r → Bounds r.w (p1_of r) t → t.d + t.d1 ≤ length xs
    → Walked r t xs ys a → outcome a ≡ given (t.d + t.d1)
walked-done {r} {t} {xs} o b room u =
    u.answer ∙ rw (obeyed o, is_true (bounded_tells r.w (p1_of r) t) b, le-ltb (length xs) (t.d + t.d1) room)

-- 30 and 3, with W of 37 or more
module _ {r : Row} (o : Obeys r) (w-low : 37 ≤ r.w) {a b a1 b1 : ℕ} (a_in : (1 ≤ a) × (a < r.w)) (b-in : b < r.w) (a1-in : (1 ≤ a1) × (a1 < p1_of r))
    (b1-in : b1 < p1_of r) where
  abbrev pub own : Tuple
  own = record { d = 30; a = a; b = b; d1 = 3; a1 = a1; b1 = b1 }

  own-bounds : Bounds r.w (p1_of r) own
  own-bounds =
      record {
        d-low = omega arith;
        d-high = omega arith;
        d-w = omega arith;
        a-low = a_in.0;
        a-high = a_in.1;
        b-high = b-in;
        d1-low = omega arith;
        d1-high = omega arith;
        a1-low = a1-in.0;
        a1-high = a1-in.1;
        b1-high = b1-in;
      }

  pub own-walked : {xs ys : List ℕ} {n : Result ℕ Refusal} → 33 ≤ length xs → Walked r own xs ys n
      → (outcome n ≡ given 33) × (length (places_of r own) ≡ 33) × Laid (places_of r own) xs ys 0
  own-walked {xs} {ys} room u =
      let e = walked-done o own-bounds room u in
      (e, places_count r own, subst (λ (a : Outcome ℕ). Left a xs ys (Laid (places_of r own) xs ys 0)) e u.memory)
