-- What the runs leave in a buffer of its own, read in the store that the other run stands in.
-- Assumes nothing.
use mathlib.Core.Path.{◌≡◌, sym, ap, ◌∙◌, subst}
use mathlib.Core.List.{List}
use Prim.Native.Nat.{ℕ, ◌+◌, ◌-◌, ◌*◌, ◌≤◌, ◌<◌}
use native.Mathlib.Nat.{zero-add}
use native.Mathlib.Decide.{dec_lt}
use native.Mathlib.Omega.{arith}
use lib.Bits.{xor_zero_r}
use lib.ListN.{length, get_or, take, drop}
use Rattle.field.specs.Octet.{plus, times, inverse}
use Rattle.field.specs.Runs.{Written, fused, scaled}
use Rattle.field.proofs.Laws.{one-times, times_zero}
use Rattle.field.proofs.Parts.{part_length, part_at}
use Rattle.field.proofs.Writing.{written_as, written_is, written_same}
use Rattle.linear.specs.Bytes.{Bytes, cell}
use Rattle.elimination.specs.Taking.{Onto, OntoFrom, Times}
use Rattle.elimination.proofs.Rows.{inverse-one}

-- as many places, by another name
pub written-long : {f : ℕ → ℕ} {x x₁ : List ℕ} {n m : ℕ} → n ≡ m → Written f x x₁ 0 n → Written f x x₁ 0 m
written-long {f} {x} {x₁} e s = subst (λ (k : ℕ). Written f x x₁ 0 k) e s

-- the run is row k of a store, from column s on
pub onto-part : (w k s f : ℕ) (a : List ℕ) {x x₁ : List ℕ} (from n : ℕ) → from ≡ k * w + s → n ≡ w - s → s ≤ w → k * w + w ≤ length a
    → Written (fused x s f (take n (drop from a))) x x₁ s (length (take n (drop from a))) → OntoFrom w k s f a x x₁
onto-part w k s f a {x} from n i e h fits u = written_as (written_is u (part_length a from n (omega arith) ∙ e))
    (λ c l. ap (λ (v : ℕ). plus (get_or x (s + c) 0) (times f v)) (part_at a from n c (omega arith) ∙ at c))
  where
    at : (c : ℕ) → get_or a (from + c) 0 ≡ cell w a k (s + c)
    at c = let q : from + c ≡ k * w + (s + c) = omega arith in ap (λ (y : ℕ). get_or a y 0) q

-- a row that is 0 before column s goes onto all of it
pub onto-all : {w : ℕ} (k s f : ℕ) (a x : List ℕ) {x₁ : List ℕ} → s ≤ w → ((c : ℕ) → c < s → cell w a k c ≡ 0) → OntoFrom w k s f a x x₁ → Onto w k f a x x₁
onto-all {w} k s f a x {x₁} h z u = record {
  size = u.size;
  part = λ c l. ap (λ (i : ℕ). get_or x₁ i 0) (zero-add c) ∙ go c l (dec_lt c s);
  low = λ c l. absurd (omega arith);
  high = λ c l. u.high c (omega arith);
}
  where
    go : (c : ℕ) → c < w → Dec (c < s) → get_or x₁ c 0 ≡ plus (get_or x c 0) (times f (cell w a k c))
    go c l (yes b) =
        u.low c b ∙ sym (ap (λ (v : ℕ). plus (get_or x c 0) (times f v)) (z c b) ∙ ap (plus (get_or x c 0)) (times_zero f) ∙ xor_zero_r (get_or x c 0))
    go c l (no b) =
        let q : s + (c - s) ≡ c = omega arith in
        subst (λ (i : ℕ). get_or x₁ i 0 ≡ plus (get_or x i 0) (times f (cell w a k i))) q (u.part (c - s) (omega arith))

-- the run is all of symbol k
pub onto-symbol : (t k f : ℕ) (a : List ℕ) {y y₁ : List ℕ} → k * t + t ≤ length a
    → Written (fused y 0 f (take (k * t + t - k * t) (drop (k * t) a))) y y₁ 0 (length (take (k * t + t - k * t) (drop (k * t) a))) → Onto t k f a y y₁
onto-symbol t k f a {y} h u =
    onto-all k 0 f a y (omega arith) (λ b l. absurd (omega arith))
    (onto-part t k 0 f a (k * t) (k * t + t - k * t) (omega arith) (omega arith) (omega arith) h u)

-- what is 1 there stays as it is
pub times_none : {f : ℕ} {d : List ℕ} → Bytes d → f ≡ 1 → Times (inverse f) d d
times_none {f} {d} b e = written_same _ d (length d)
    (λ c h. sym (ap (λ (z : ℕ). times z (get_or d c 0)) (ap inverse e ∙ inverse-one) ∙ one-times (get_or d c 0) (b c)))

pub times-by : {g x : ℕ} {d d₁ : List ℕ} → x ≡ g → Written (scaled x d) d d₁ 0 (length d) → Times g d d₁
times-by {g} {x} {d} e w = written_as w (λ c h. ap (λ (z : ℕ). times z (get_or d c 0)) e)
