-- Where the rows lie, and the inverse of an octet.
-- Assumes nothing.
use mathlib.Core.Path.{◌≡◌, refl, sym, ap, ◌∙◌}
use mathlib.Core.Logic.{◌≢◌, ⊎_elim}
use mathlib.Core.List.{List}
use Prim.Native.Nat.{ℕ, ◌+◌, ◌*◌, ◌≤◌, ◌<◌}
use native.Mathlib.Omega.{arith}
use native.Mathlib.Decide.{ℕ_discrete}
use borrow.Author.Tests.{eq-eqb, ne_eqb}
use lib.ListN.{length, get_or}
use Rattle.field.specs.Octet.{doubled, copies, times, squares, inverse, over}
use Rattle.std.specs.Prelude.{Result, Ok, Err}
use Rattle.std.specs.Result.{result_unwrap_or}
use Rattle.field.specs.Answer.{refused, code_of, outcome, divided}
use Rattle.field.specs.declared.refusal.Refusal.{Refusal}
use Rattle.field.proofs.Answers.{given-only, given-not-refused}
use Rattle.field.specs.Runs.{Apart, Written}
use Rattle.field.proofs.Laws.{one-times, inverse-lt}
use Rattle.field.proofs.Parts.{block-ends, blocks-apart}

-- ---- where

-- a row ends where the next begins
pub row-in : (n w i : ℕ) {len : ℕ} → i < n → n * w ≤ len → i * w + w ≤ len
row-in n w i h l = omega (arith, block-ends w h)

-- two rows do not meet
pub rows_apart : (n w i k : ℕ) {len : ℕ} → i < n → k < n → i ≢ k → n * w ≤ len → Apart len w (i * w) (k * w)
rows_apart n w i k hi hk ne l = record { to_in = row-in n w i hi l; from_in = row-in n w k hk l; apart = blocks-apart i k w ne }

-- a part that lies apart from what was written so far is as it was
pub apart-still : {f : ℕ → ℕ} {xs ys : List ℕ} {w to from n : ℕ} → Written f xs ys to n → Apart (length xs) w to from → n ≤ w → (c : ℕ) → c < w
    → get_or ys (from + c) 0 ≡ get_or xs (from + c) 0
apart-still {f} {xs} {ys} {w} {to} {from} {n} s a l c h =
    ⊎_elim (λ (p : to + w ≤ from). s.high (from + c) (omega arith)) (λ (p : from + w ≤ to). s.low (from + c) (omega arith)) a.apart

-- ---- the inverse

inverse-zero : inverse 0 ≡ 0
unfolding times copies doubled inverse squares
inverse-zero = refl

pub inverse-one : inverse 1 ≡ 1
unfolding times copies doubled inverse squares
inverse-one = refl

over-one : (x : ℕ) → over 1 x ≡ inverse x
unfolding over
over-one x = one-times (inverse x) (inverse-lt x)

-- what a division of 1 answers, or 0 where it is refused
pub unwrapped-inverse : (x : ℕ) (q : Result ℕ Refusal) → outcome q ≡ divided 1 x → result_unwrap_or q 0 ≡ inverse x
unwrapped-inverse x q e = go (ℕ_discrete x 0) q e
  where
    go : Dec (x ≡ 0) → (q : Result ℕ Refusal) → outcome q ≡ divided 1 x → result_unwrap_or q 0 ≡ inverse x
    go (yes z) (Ok y) e = absurd (given-not-refused y 1 (rw (eq-eqb x 0 z) at e))
    go (yes z) (Err why) e = sym (ap inverse z ∙ inverse-zero)
    go (no n) (Ok y) e = given-only y (over 1 x) (rw (ne_eqb x 0 n) at e) ∙ over-one x
    go (no n) (Err why) e = absurd (given-not-refused (over 1 x) (code_of why) (sym (rw (ne_eqb x 0 n) at e)))

-- where it is refused, whatever the number
pub refused-inverse : (x : ℕ) {n : ℕ} → refused n ≡ divided 1 x → 0 ≡ inverse x
refused-inverse x {n} e = go (ℕ_discrete x 0)
  where
    go : Dec (x ≡ 0) → 0 ≡ inverse x
    go (yes z) = sym (ap inverse z ∙ inverse-zero)
    go (no m) = absurd (given-not-refused (over 1 x) n (sym (rw (ne_eqb x 0 m) at e)))
