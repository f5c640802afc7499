-- What is displayed: the loops over the ids, the place of a symbol, and that the contracts settle the answer.
-- Assumes nothing.
use mathlib.Core.Path.{◌≡◌, refl, sym}
use mathlib.Core.Logic.{◌≢◌}
use mathlib.Core.Bool.{Bool, true, false, not}
use mathlib.Core.List.{List, [], ◌∷◌}
use Prim.Native.Nat.{ℕ, zero, suc, ◌+◌, ◌*◌, ◌≤◌, ◌<◌}
use native.Mathlib.Nat.{not-suc-le-zero, le_of_suc-le-suc}
use native.Mathlib.Omega.{arith}
use borrow.Author.Tests.{eq-eqb, ne_eqb, ltb-true, ltb-false, leb-false, eqb-true, not-false}
use lib.Dec.{leb, ltb, eqb}
use lib.ListN.{length, get_or}
use Rattle.std.specs.Bool.{MatchBool}
use Rattle.std.specs.List.{AllWithin, HoldsAt}
use Rattle.std.specs.Option.{MatchOption, unwrap_or}
use Rattle.std.specs.Prelude.{Option}
use Rattle.std.proofs.lemmas.Iterator.{index_from_first}
use Rattle.field.specs.Choice.{pick}
use Rattle.field.specs.Answer.{given}
use Rattle.field.proofs.Parts.{block-ends}
use Rattle.field.proofs.Answers.{given-only}
use Rattle.field.proofs.Refusals.{passed, passed-before}
use Rattle.solver.specs.Display.{any_large, standing, answerable, whereof, located}
use Rattle.solver.specs.declared.display.Place.{Place}
use Rattle.solver.specs.declared.display.Place.TheVariants.{Arrived, Rebuilt}

-- a large id at p, and none before
pub large-at : (es : List ℕ) (p : ℕ) → p < length es → leb 16777216 (get_or es p 0) ≡ true → any_large es ≡ true
unfolding any_large
large-at [] p h e = absurd (not-suc-le-zero h)
large-at (x ∷ es) zero h e = rw e
large-at (x ∷ es) (suc p) h e = go (leb 16777216 x) (large-at es p (le_of_suc-le-suc h) e)
  where
    go : (b : Bool) → any_large es ≡ true → pick b true (any_large es) ≡ true
    go true q = refl
    go false q = q

pub large-none : (es : List ℕ) → ((p : ℕ) → p < length es → leb 16777216 (get_or es p 0) ≡ false) → any_large es ≡ false
unfolding any_large
large-none [] h = refl
large-none (x ∷ es) h = rw (h 0 (omega arith)) (large-none es (λ p l. h (suc p) (omega arith)))

-- what a search for one tells
pub large-told : (es : List ℕ) (r : Bool) → MatchBool r ((k : ℕ) × (k < length es) × HoldsAt (λ e. leb 16777216 e ≡ true) es k)
    (AllWithin (λ e. leb 16777216 e ≡ false) es 0 (length es)) → r ≡ any_large es
large-told es true h = sym (large-at es h.0 h.1 (h.2 0))
large-told es false h = sym (large-none es (λ p l. h p 0 (omega arith) l))

-- what a search for the first i tells
module _ (i : ℕ) where
  here : (e : ℕ) (es : List ℕ) → e ≡ i → standing (e ∷ es) i ≡ 0
  unfolding standing
  here e es q = rw (eq-eqb e i q)

  past : (e : ℕ) (es : List ℕ) → e ≢ i → standing (e ∷ es) i ≡ standing es i + 1
  unfolding standing
  past e es n = rw (ne_eqb e i n) (omega arith)

  none : standing [] i ≡ 0
  unfolding standing
  none = refl

pub standing-told : (es : List ℕ) (i : ℕ) (r : Option ℕ) → MatchOption r (AllWithin (λ e. e ≢ i) es 0 (length es))
    (λ k. (k < length es) × HoldsAt (λ e. e ≡ i) es k × AllWithin (λ e. e ≢ i) es 0 k) → standing es i ≡ unwrap_or r (length es)
standing-told es i = index_from_first (λ xs. standing xs i) (λ e. e ≡ i) (λ e. e ≢ i) (none i) (here i) (past i) es

-- what a call that is not refused has made sure of
pub record Asked (n came built k t i : ℕ) : Type 0 where
  pub k-high : k ≤ 56403
  pub few : n ≤ 65535
  pub whole : came ≡ n * t
  pub room : k * t ≤ built
  pub inside-k : i < k

pub asked : (n : ℕ) (large : Bool) (came built k t i : ℕ) → answerable n large came built k t i ≡ given tt → Asked n came built k t i
asked n large came built k t i e =
    let p1 = passed (ltb k 1) 9 _ tt e in
    let p2 = passed (ltb 56403 k) 9 _ tt p1.1 in
    let p3 = passed (ltb 65535 n) 9 _ tt p2.1 in
    let p4 = passed large 9 _ tt p3.1 in
    let p5 = passed (eqb t 0) 10 _ tt p4.1 in
    let p6 = passed (not (eqb came (n * t))) 10 _ tt p5.1 in
    let p7 = passed (ltb built (k * t)) 8 _ tt p6.1 in
    let p8 = passed (leb k i) 6 _ tt p7.1 in
    record {
      k-high = ltb-false 56403 k p2.0;
      few = ltb-false 65535 n p3.0;
      whole = eqb-true came (n * t) (not-false (eqb came (n * t)) p6.0);
      room = ltb-false built (k * t) p7.0;
      inside-k = leb-false k i p8.0;
    }

-- a symbol that is located lies whole in its store
module _ (k t : ℕ) (es : List ℕ) (came built i s : ℕ) where
  fine : {p : Place} → given p ≡ located k t es came built i → Asked (length es) came built k t i × (whereof t es i ≡ p)
  fine {p} e =
      let q = passed-before (answerable (length es) (any_large es) came built k t i) (given (whereof t es i)) p (sym e) in
      (asked (length es) (any_large es) came built k t i q.1, given-only (whereof t es i) p q.2)

  pub arrived-in : given (Arrived s) ≡ located k t es came built i → s + t ≤ came
  arrived-in e = let f = fine e in go (ltb (standing es i) (length es)) refl f.1 f.0
    where
      go : (b : Bool) → ltb (standing es i) (length es) ≡ b → pick b (Arrived (standing es i * t)) (Rebuilt (i * t)) ≡ Arrived s → Asked (length es) came built k t i → s + t ≤ came
      go true q m a =
          let z : standing es i * t ≡ s = cc in
          omega (arith, block-ends t (ltb-true (standing es i) (length es) q), a.whole)
      go false q m a = absurd (let z : ◌≡◌ {A = ℕ} 0 1 = cc in omega arith)

  pub rebuilt-in : given (Rebuilt s) ≡ located k t es came built i → s + t ≤ built
  rebuilt-in e = let f = fine e in go (ltb (standing es i) (length es)) f.1 f.0
    where
      go : (b : Bool) → pick b (Arrived (standing es i * t)) (Rebuilt (i * t)) ≡ Rebuilt s → Asked (length es) came built k t i → s + t ≤ built
      go true m a = absurd (let z : ◌≡◌ {A = ℕ} 0 1 = cc in omega arith)
      go false m a =
          let z : i * t ≡ s = cc in
          omega (arith, block-ends t a.inside-k, a.room)
