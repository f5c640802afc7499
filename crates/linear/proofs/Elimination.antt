-- The held rows: what is said of them is said of the first r rows alone, a held row goes off the one that comes, which joins them with a pivot of
-- its own, and the pivots are different columns.
-- Assumes nothing.
use mathlib.Core.Path.{◌≡◌, sym, ap, ap₂, ◌∙◌}
use mathlib.Core.Logic.{◌≢◌}
use mathlib.Core.List.{List}
use Prim.Native.Nat.{ℕ, ◌+◌, ◌≤◌, ◌<◌}
use native.Mathlib.Omega.{arith}
use native.Mathlib.Decide.{ℕ_discrete, dec_lt}
use lib.Bits.{xor_self, xor_zero_r}
use lib.ListN.{get_or}
use Rattle.field.specs.Octet.{plus, times}
use Rattle.field.proofs.Laws.{times_zero, times-one}
use Rattle.linear.specs.Octets.{octets}
use Rattle.linear.specs.Bytes.{Bytes, cell}
use Rattle.linear.specs.Elimination.{Stepped, Columns}
use Rattle.linear.proofs.Kernel.{pigeon, pigeon-more}

-- ---- what stands where

pub stepped-none : (L : ℕ) (pivot : ℕ → ℕ) {a d : List ℕ} → Bytes a → Bytes d → Stepped L 0 pivot a d
stepped-none L pivot ba bd = record {
  column = λ k h. absurd (omega arith);
  one = λ k h. absurd (omega arith);
  low = λ k h. absurd (omega arith);
  off = λ i h. absurd (omega arith);
  row-bytes = ba;
  symbol-bytes = bd;
}

-- stores whose first r rows are the same
pub stepped-agree : {L r : ℕ} {pivot : ℕ → ℕ} {a d b e : List ℕ} → ((i : ℕ) → i < r → (c : ℕ) → c < L → cell L b i c ≡ cell L a i c) → Bytes b → Bytes e
    → Stepped L r pivot a d → Stepped L r pivot b e
stepped-agree {pivot = pivot} same bb be s = record {
  column = s.column;
  one = λ k h. same k h (pivot k) (s.column k h) ∙ s.one k h;
  low = λ k h c l. same k h c (let q = s.column k h in omega arith) ∙ s.low k h c l;
  off = λ i h k l. same i h (pivot k) (s.column k (omega arith)) ∙ s.off i h k l;
  row-bytes = bb;
  symbol-bytes = be;
}

-- row r joins the held ones with column q for its pivot: it is 1 there, 0 before it, and 0 at their pivots
pub stepped-more : {L r q : ℕ} (pivot pivot₁ : ℕ → ℕ) {a d : List ℕ} → ((k : ℕ) → k < r → pivot₁ k ≡ pivot k) → pivot₁ r ≡ q → q < L
    → cell L a r q ≡ 1 → ((c : ℕ) → c < q → cell L a r c ≡ 0) → ((k : ℕ) → k < r → cell L a r (pivot k) ≡ 0)
    → Stepped L r pivot a d → Stepped L (r + 1) pivot₁ a d
stepped-more {L} {r} {q} pivot pivot₁ {a} old new hq unit zeros gone s = record {
  column = λ k h. column' k h (ℕ_discrete k r);
  one = λ k h. one' k h (ℕ_discrete k r);
  low = λ k h. low' k h (ℕ_discrete k r);
  off = λ i h k l. ap (cell L a i) (old k (omega arith)) ∙ off' i h k l (ℕ_discrete i r);
  row-bytes = s.row-bytes;
  symbol-bytes = s.symbol-bytes;
}
  where
    at : (k : ℕ) → k ≡ r → pivot₁ k ≡ q
    at k e = ap pivot₁ e ∙ new

    column' : (k : ℕ) → k < r + 1 → Dec (k ≡ r) → pivot₁ k < L
    column' k h (yes e) = let z = at k e in omega arith
    column' k h (no n) = let z = old k (omega arith) in let b = s.column k (omega arith) in omega arith

    one' : (k : ℕ) → k < r + 1 → Dec (k ≡ r) → cell L a k (pivot₁ k) ≡ 1
    one' k h (yes e) = ap₂ (cell L a) e (at k e) ∙ unit
    one' k h (no n) = ap (cell L a k) (old k (omega arith)) ∙ s.one k (omega arith)

    low' : (k : ℕ) → k < r + 1 → Dec (k ≡ r) → (c : ℕ) → c < pivot₁ k → cell L a k c ≡ 0
    low' k h (yes e) c l = ap (λ (z : ℕ). cell L a z c) e ∙ zeros c (let z = at k e in omega arith)
    low' k h (no n) c l = s.low k (omega arith) c (let z = old k (omega arith) in omega arith)

    off' : (i : ℕ) → i < r + 1 → (k : ℕ) → k < i → Dec (i ≡ r) → cell L a i (pivot k) ≡ 0
    off' i h k l (yes e) = ap (λ (z : ℕ). cell L a z (pivot k)) e ∙ gone k (omega arith)
    off' i h k l (no n) = s.off i (omega arith) k l

-- ---- held row j goes off the row x that comes, by what x has at its pivot: x is 0 at one pivot more

pub off-more : {L r j f : ℕ} {pivot : ℕ → ℕ} {a d : List ℕ} (x x₁ : List ℕ) → Stepped L r pivot a d → j < r → Bytes x → f ≡ get_or x (pivot j) 0
    → ((c : ℕ) → c < L → get_or x₁ c 0 ≡ plus (get_or x c 0) (times f (cell L a j c)))
    → ((k : ℕ) → k < j → get_or x (pivot k) 0 ≡ 0) → (k : ℕ) → k < j + 1 → get_or x₁ (pivot k) 0 ≡ 0
off-more {L} {r} {j} {f} {pivot} {a} x x₁ s hj bx e added gone k h = go (ℕ_discrete k j)
  where
    go : Dec (k ≡ j) → get_or x₁ (pivot k) 0 ≡ 0
    go (yes q) =
        ap (λ (z : ℕ). get_or x₁ (pivot z) 0) q ∙ added (pivot j) (s.column j hj) ∙ ap₂ (λ (u v : ℕ). plus (get_or x (pivot j) 0) (times u v)) e (s.one j hj)
        ∙ ap (plus (get_or x (pivot j) 0)) (times-one (get_or x (pivot j) 0) (bx (pivot j))) ∙ xor_self (get_or x (pivot j) 0)
    go (no n) =
        added (pivot k) (s.column k (omega arith)) ∙ ap (λ (v : ℕ). plus (get_or x (pivot k) 0) (times f v)) (s.off j hj k (omega arith))
        ∙ ap (plus (get_or x (pivot k) 0)) (times_zero f) ∙ xor_zero_r (get_or x (pivot k) 0) ∙ gone k (omega arith)

-- ---- the pivots are different columns, and so not more than there are

pub stepped-columns : {L r : ℕ} {pivot : ℕ → ℕ} {a d : List ℕ} → Stepped L r pivot a d → Columns L r pivot
stepped-columns {L} {r = r} {pivot = pivot} {a = a} s = record { below = s.column; once = λ i k hi hk e. go i k hi hk e (dec_lt i k) (dec_lt k i) }
  where
    -- row k is 1 at its own, and 0 at those before it
    apart : (i k : ℕ) → i < k → k < r → pivot i ≡ pivot k → ⊥
    apart i k h l e = let z : ◌≡◌ {A = ℕ} 1 0 = sym (s.one k l) ∙ ap (cell L a k) (sym e) ∙ s.off k l i h in omega arith

    go : (i k : ℕ) → i < r → k < r → pivot i ≡ pivot k → Dec (i < k) → Dec (k < i) → i ≡ k
    go i k hi hk e (yes h) d = absurd (apart i k h hk e)
    go i k hi hk e (no h) (yes l) = absurd (apart k i l hi (sym e))
    go i k hi hk e (no h) (no l) = omega arith

pub rank-at-most : {L r : ℕ} {pivot : ℕ → ℕ} {a d : List ℕ} → Stepped L r pivot a d → r ≤ L
rank-at-most {L} {r = r} {pivot = pivot} s = let c = stepped-columns s in pigeon octets r L pivot c.below c.once

-- a row that is 0 at every pivot and not 0 in column q leaves room for one more pivot
pub room : {L r : ℕ} {pivot : ℕ → ℕ} {a d : List ℕ} (x : List ℕ) (q : ℕ) → Stepped L r pivot a d → ((k : ℕ) → k < r → get_or x (pivot k) 0 ≡ 0) → q < L
    → get_or x q 0 ≢ 0 → r < L
room {L} {r} {pivot} x q s gone hq nz =
    let c = stepped-columns s in
    pigeon-more octets r L q pivot c.below c.once hq (λ k h e. nz (ap (λ (z : ℕ). get_or x z 0) (sym e) ∙ gone k h))
