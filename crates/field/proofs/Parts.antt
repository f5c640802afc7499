-- Memory written part by part: a lent part that came back, and one run of writing after another.
-- Assumes nothing.
use mathlib.Core.Path.{◌≡◌, sym, ap, subst, ◌∙◌}
use mathlib.Core.List.{List, ◌++◌}
use mathlib.Core.Logic.{◌⊎◌, inl, inr}
use Prim.Native.Nat.{ℕ, ◌+◌, ◌-◌, ◌*◌, ◌≤◌, ◌<◌}
use native.Mathlib.Nat.{add-sub_cancel_left, mul-le-mul_right}
use native.Mathlib.Decide.{dec_lt}
use native.Mathlib.Omega.{arith}
use lib.ListN.{length, get_or, take, drop, length-append, length-drop, get_or-append}
use lib.Seq.{take_at, take-length, length-take-le, get_or-append-add, get_or-take, get_or-drop, drop-drop}
use Rattle.field.specs.Runs.{AtMost, Blank, Written}

-- the part from `from` to `from + n`, as a loan has it
pub part-is : (xs : List ℕ) (from n : ℕ) → take (from + n - from) (drop from xs) ≡ take n (drop from xs)
part-is xs from n = ap (λ (k : ℕ). take k (drop from xs)) (add-sub_cancel_left from n)

pub part_length : (xs : List ℕ) (from n : ℕ) → from + n ≤ length xs → length (take n (drop from xs)) ≡ n
part_length xs from n h = length-take-le n (drop from xs) (simp length-drop (omega arith))

pub part_at : (xs : List ℕ) (from n k : ℕ) → k < n → get_or (take n (drop from xs)) k 0 ≡ get_or xs (from + k) 0
part_at xs from n k h = get_or-take n (drop from xs) k 0 h ∙ get_or-drop from xs k 0

-- all is 0 before x, and it is 0 there
pub blank-next : (xs : List ℕ) {from x : ℕ} → Blank xs from x → get_or xs x 0 ≡ 0 → Blank xs from (x + 1)
blank-next xs {x = x} b z k h l = go (dec_lt k x)
  where
    go : Dec (k < x) → get_or xs k 0 ≡ 0
    go (yes q) = b k q l
    go (no q) = let e : k ≡ x = omega arith in ap (λ (j : ℕ). get_or xs j 0) e ∙ z

-- all is 0 before x, and no octet of the n behind it is above 0
pub blank_part : (xs : List ℕ) {from : ℕ} (x n : ℕ) {m : ℕ} → x + n ≤ length xs → Blank xs from x
    → AtMost m (take (x + n - x) (drop x xs)) → m ≤ 0 → Blank xs from (x + n)
blank_part xs x n {m} fits b a e k h l = go (dec_lt k x)
  where
    go : Dec (k < x) → get_or xs k 0 ≡ 0
    go (yes q) = b k q l
    go (no q) =
        let i : x + (k - x) ≡ k = omega arith in
        let u = subst (AtMost m) (part-is xs x n) a (k - x) (omega (arith, part_length xs x n fits)) in
        let z : get_or xs (x + (k - x)) 0 ≡ 0 = omega (arith, u, part_at xs x n (k - x) (omega arith)) in
        ap (λ (j : ℕ). get_or xs j 0) (sym i) ∙ z

-- what the whole is when its part of n places at `to` has become zs
abbrev pub splice : List ℕ → ℕ → ℕ → List ℕ → List ℕ
splice xs to n zs = take to xs ++ (zs ++ drop n (drop to xs))

module _ (xs : List ℕ) (to n : ℕ) (zs : List ℕ) (fits : to + n ≤ length xs) (same : length zs ≡ n) where
  front : length (take to xs) ≡ to
  front = length-take-le to xs (omega arith)

  splice-length : length (splice xs to n zs) ≡ length xs
  splice-length = simp (length-append, length-drop, front, same) (omega arith)

  past : (i : ℕ) → get_or (splice xs to n zs) (to + i) 0 ≡ get_or (zs ++ drop n (drop to xs)) i 0
  past i = ap (λ (m : ℕ). get_or (splice xs to n zs) (m + i) 0) (sym front) ∙ get_or-append-add (take to xs) (zs ++ drop n (drop to xs)) i 0

  splice-in : (i : ℕ) → i < n → get_or (splice xs to n zs) (to + i) 0 ≡ get_or zs i 0
  splice-in i h = past i ∙ get_or-append zs (drop n (drop to xs)) 0 i (omega arith)

  splice-low : (i : ℕ) → i < to → get_or (splice xs to n zs) i 0 ≡ get_or xs i 0
  splice-low i h = get_or-append (take to xs) (zs ++ drop n (drop to xs)) 0 i (omega (arith, front)) ∙ get_or-take to xs i 0 h

  splice-high : (i : ℕ) → to + n ≤ i → get_or (splice xs to n zs) i 0 ≡ get_or xs i 0
  splice-high i h =
      let j : ℕ = i - to - n in
      let e : i ≡ to + (n + j) = omega arith in
      let e₂ : i ≡ to + n + j = omega arith in
      ap (λ (m : ℕ). get_or (splice xs to n zs) m 0) e ∙ past (n + j)
      ∙ ap (λ (m : ℕ). get_or (zs ++ drop n (drop to xs)) (m + j) 0) (sym same)
      ∙ get_or-append-add zs (drop n (drop to xs)) j 0
      ∙ ap (λ (l : List ℕ). get_or l j 0) (drop-drop n to xs)
      ∙ get_or-drop (to + n) xs j 0
      ∙ ap (λ (m : ℕ). get_or xs m 0) (sym e₂)

-- a lent part that came back written is the whole written, at the place shifted by the part's start
module _ (xs : List ℕ) (to t : ℕ) {f : ℕ → ℕ} {zs : List ℕ} {at n : ℕ} (w : Written f (take t (drop to xs)) zs at n)
    (fits : to + t ≤ length xs) (inside : at + n ≤ t) where
  same : length zs ≡ t
  same = w.size ∙ part_length xs to t fits

  pub written-part : Written f xs (splice xs to t zs) (to + at) n
  written-part =
      record {
        size = splice-length xs to t zs fits same;
        part = λ k h.
            let e : to + at + k ≡ to + (at + k) = omega arith in
            ap (λ (m : ℕ). get_or (splice xs to t zs) m 0) e ∙ splice-in xs to t zs fits same (at + k) (omega arith) ∙ w.part k h;
        low = λ k h. before k h (dec_lt k to);
        high = λ k h. after k h (dec_lt k (to + t));
      }
    where
      kept : (k : ℕ) → to ≤ k → k < to + t → get_or zs (k - to) 0 ≡ get_or (take t (drop to xs)) (k - to) 0
          → get_or (splice xs to t zs) k 0 ≡ get_or xs k 0
      kept k h b q =
          let e : to + (k - to) ≡ k = omega arith in
          ap (λ (m : ℕ). get_or (splice xs to t zs) m 0) (sym e) ∙ splice-in xs to t zs fits same (k - to) (omega arith)
          ∙ q ∙ part_at xs to t (k - to) (omega arith) ∙ ap (λ (m : ℕ). get_or xs m 0) e

      before : (k : ℕ) → k < to + at → Dec (k < to) → get_or (splice xs to t zs) k 0 ≡ get_or xs k 0
      before k h (yes l) = splice-low xs to t zs fits same k l
      before k h (no l) = kept k (omega arith) (omega arith) (w.low (k - to) (omega arith))

      after : (k : ℕ) → to + at + n ≤ k → Dec (k < to + t) → get_or (splice xs to t zs) k 0 ≡ get_or xs k 0
      after k h (yes l) = kept k (omega arith) l (w.high (k - to) (omega arith))
      after k h (no l) = splice-high xs to t zs fits same k (omega arith)

-- one run of writing, and another right behind it
module _ {f g : ℕ → ℕ} {xs ys zs : List ℕ} {at n m : ℕ} (w : Written f xs ys at n) (u : Written g ys zs (at + n) m)
    (e : (k : ℕ) → k < m → g k ≡ f (n + k)) where
  pub written_then : Written f xs zs at (n + m)
  written_then =
      record {
        size = u.size ∙ w.size;
        part = λ k h. here k h (dec_lt k n);
        low = λ k h. u.low k (omega arith) ∙ w.low k h;
        high = λ k h. u.high k (omega arith) ∙ w.high k (omega arith);
      }
    where
      here : (k : ℕ) → k < n + m → Dec (k < n) → get_or zs (at + k) 0 ≡ f k
      here k h (yes l) = u.low (at + k) (omega arith) ∙ w.part k l
      here k h (no l) =
          let i : at + k ≡ at + n + (k - n) = omega arith in
          let j : n + (k - n) ≡ k = omega arith in
          ap (λ (x : ℕ). get_or zs x 0) i ∙ u.part (k - n) (omega arith) ∙ e (k - n) (omega arith) ∙ ap f j

-- the first n bytes of a list that begins with a copy of a part are that part
pub copied : (xs old new : List ℕ) (from n : ℕ) → from + n ≤ length xs
    → new ≡ take (length (take (from + n - from) (drop from xs))) (take (from + n - from) (drop from xs))
    ++ drop (length (take (from + n - from) (drop from xs))) old
    → take n new ≡ take n (drop from xs)
copied xs old new from n h e =
    ap (λ (l : List ℕ). take n l) e
    ∙ take_at _ _ n (ap length (take-length (take (from + n - from) (drop from xs))) ∙ ap length (part-is xs from n) ∙ part_length xs from n h)
    ∙ take-length (take (from + n - from) (drop from xs)) ∙ part-is xs from n

-- block i of n places ends within n blocks
pub block-ends : {i m : ℕ} (n : ℕ) → i < m → i * n + n ≤ m * n
block-ends {i} {m} n h =
    let l : (i + 1) * n ≤ m * n = mul-le-mul_right n (omega arith) in
    omega arith

-- two blocks that differ do not meet
pub blocks-apart : (i j n : ℕ) → (i ≡ j → ⊥) → (i * n + n ≤ j * n) ⊎ (j * n + n ≤ i * n)
blocks-apart i j n d = go (dec_lt i j)
  where
    go : Dec (i < j) → (i * n + n ≤ j * n) ⊎ (j * n + n ≤ i * n)
    go (yes l) = inl (block-ends n l)
    go (no l) = inr (block-ends n (omega (arith, d)))
