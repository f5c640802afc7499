-- The row of a walk: ones at its places, and 0 elsewhere, since no place stands twice; so that setting ones one by one makes the sum.
-- Assumes nothing.
use mathlib.Core.Path.{◌≡◌, refl, sym, ap, ap₂, ◌∙◌, subst}
use mathlib.Core.List.{List}
use Prim.Native.Nat.{ℕ, ◌+◌, ◌<◌, ◌≤◌}
use native.Mathlib.Decide.{dec_lt, ℕ_discrete}
use native.Mathlib.Numerals.{add-one}
use native.Mathlib.Nat.{zero-add}
use native.Mathlib.Omega.{arith}
use lib.Bits.{xor_zero_r}
use lib.ListN.{length, get_or, set, length-set}
use lib.Seq.{get_or-set_same, get_or-set_other}
use Rattle.field.specs.Octet.{plus}
use Rattle.field.specs.Runs.{Written}
use Rattle.field.specs.Sum.{sum, unit}
use Rattle.field.proofs.Sums.{sum_same, sum-zero, sum-only, sum-last, unit-same, unit-other}
use Rattle.headers.specs.Bytes.{Laid}
use Rattle.headers.specs.Tuples.{Bounds}
use Rattle.headers.specs.declared.tuple.Tuple.{Tuple}
use Rattle.constraints.specs.Walk.{Walks, Distinct, places}
use Rattle.constraints.specs.Encoding.{visits, Markable}
use Rattle.constraints.proofs.Distinct.{places-lt, places-distinct}
use Rattle.constraints.proofs.Lists.{places-length}

-- ---- the sum over a walk

-- a place of the walk is 1
pub visits-at : (ps : List ℕ) → Distinct ps → (k : ℕ) → k < length ps → visits ps (get_or ps k 0) ≡ 1
unfolding visits
visits-at ps d k h =
    sum-only (length ps) (λ i. unit (get_or ps k 0) (get_or ps i 0)) k h (λ i l n. unit-other (get_or ps k 0) (get_or ps i 0) (λ e. go i l n e (dec_lt i k)))
    ∙ unit-same (get_or ps k 0) (get_or ps k 0) refl
  where
    go : (i : ℕ) → i < length ps → (i ≡ k → ⊥) → get_or ps k 0 ≡ get_or ps i 0 → Dec (i < k) → ⊥
    go i l n e (yes b) = d i k b h (sym e)
    go i l n e (no b) = d k i (ne-lt b n) l e
      where
        ne-lt : (i < k → ⊥) → (i ≡ k → ⊥) → k < i
        ne-lt a b = omega arith

-- any other column is 0
pub visits-off : (ps : List ℕ) (c : ℕ) → ((k : ℕ) → k < length ps → c ≡ get_or ps k 0 → ⊥) → visits ps c ≡ 0
unfolding visits
visits-off ps c n = sum-zero (length ps) (λ k h. unit-other c (get_or ps k 0) (n k h))

-- ---- a loop that sets them

-- what i turns have added at column c
abbrev sofar : List ℕ → ℕ → ℕ → ℕ
sofar list i c = sum i (λ k. unit c (get_or list k 0))

module _ {list xs : List ℕ} {at n l : ℕ} (m : Markable list xs at n l) where
  pub marked-none : Written (λ c. sum 0 (λ k. unit c (get_or list k 0))) xs xs at l
  marked-none =
      record { size = refl; part = λ c h. m.blank c h ∙ sym (sum-zero 0 (λ k b. absurd (omega arith))); low = λ k h. refl; high = λ k h. refl }

  pub marked_more : {ys : List ℕ} {i x : ℕ} → Written (λ c. sum i (λ k. unit c (get_or list k 0))) xs ys at l → i < n → x ≡ get_or list i 0
      → Written (λ c. sum (i + 1) (λ k. unit c (get_or list k 0))) xs (set ys (at + x) 1) at l
  marked_more {ys} {i} {x} w h e =
      let b : x < l = subst (λ (y : ℕ). y < l) (sym e) (m.inside i h) in
      record {
        size = length-set ys (at + x) 1 ∙ w.size;
        part = λ c q. here c q b (ℕ_discrete x c);
        low = λ k q. get_or-set_other ys (at + x) k 1 0 (λ z. omega arith) ∙ w.low k q;
        high = λ k q. get_or-set_other ys (at + x) k 1 0 (λ z. omega arith) ∙ w.high k q;
      }
    where
      last : (c : ℕ) → sofar list (i + 1) c ≡ plus (sofar list i c) (unit c (get_or list i 0))
      last c = ap (λ (j : ℕ). sofar list j c) (add-one i) ∙ sum-last i (λ k. unit c (get_or list k 0))

      here : (c : ℕ) → c < l → x < l → Dec (x ≡ c) → get_or (set ys (at + x) 1) (at + c) 0 ≡ sofar list (i + 1) c
      here c q b (yes z) =
          ap (λ (y : ℕ). get_or (set ys (at + x) 1) (at + y) 0) (sym z)
          ∙ get_or-set_same ys (at + x) 1 0 (omega (arith, w.size, m.room))
          ∙ sym (last c
          ∙ ap₂ plus (sum-zero i (λ k s. unit-other c (get_or list k 0) (λ t. m.apart k i s h (sym t ∙ sym z ∙ e))))
          (unit-same c (get_or list i 0) (sym z ∙ e)))
      here c q b (no z) =
          get_or-set_other ys (at + x) (at + c) 1 0 (λ t. z (omega arith)) ∙ w.part c q
          ∙ sym (last c ∙ ap (plus (sofar list i c)) (unit-other c (get_or list i 0) (λ t. z (e ∙ sym t))) ∙ xor_zero_r (sofar list i c))

  pub marked_all : {ys : List ℕ} {i : ℕ} → Written (λ c. sum i (λ k. unit c (get_or list k 0))) xs ys at l → i ≡ n
      → Written (λ c. sum n (λ k. unit c (get_or list k 0))) xs ys at l
  marked_all {ys} w e = subst (λ (j : ℕ). Written (λ c. sum j (λ k. unit c (get_or list k 0))) xs ys at l) e w

-- a list in which a walk was laid holds its places
pub walk-held : (w p p1 : ℕ) (t : Tuple) {old list : List ℕ} → Laid (places w p p1 t) old list 0 → (k : ℕ) → k < t.d + t.d1
    → get_or list k 0 ≡ get_or (places w p p1 t) k 0
walk-held w p p1 t {list = list} walked k h = ap (λ (i : ℕ). get_or list i 0) (sym (zero-add k)) ∙ walked.part k (omega (arith, places-length w p p1 t))

-- ---- a run that is cleared, and then has the places of a tuple set

module _ (w p p1 : ℕ) (t : Tuple) (s : Walks w p p1) (b : Bounds w p1 t) {l : ℕ} (e : l ≡ w + p) {old list xs ys : List ℕ} {at : ℕ}
    (walked : Laid (places w p p1 t) old list 0) (clear : Written (λ k. 0) xs ys at l) (room : at + l ≤ length xs) where
  held : (k : ℕ) → k < t.d + t.d1 → get_or list k 0 ≡ get_or (places w p p1 t) k 0
  held = walk-held w p p1 t walked

  pub markable : t.d + t.d1 ≤ length list → Markable list ys at (t.d + t.d1) l
  markable r =
      record {
        read = r;
        apart = λ i j a h q. places-distinct w p p1 t s b i j a (omega (arith, places-length w p p1 t)) (sym (held i (omega arith)) ∙ q ∙ held j h);
        inside = λ k h. omega (arith, e, held k h, places-lt w p p1 t s b k (omega (arith, places-length w p p1 t)));
        blank = clear.part;
        room = omega (arith, clear.size);
      }

  pub marked : {zs : List ℕ} → Written (λ c. sum (t.d + t.d1) (λ k. unit c (get_or list k 0))) ys zs at l
      → Written (visits (places w p p1 t)) xs zs at l
  unfolding visits
  marked {zs} u =
      record {
        size = u.size ∙ clear.size;
        part = λ c h. u.part c h ∙ sum_same (t.d + t.d1) (λ k q. ap (unit c) (held k q))
            ∙ ap (λ (n : ℕ). sum n (λ k. unit c (get_or (places w p p1 t) k 0))) (sym (places-length w p p1 t));
        low = λ k h. u.low k h ∙ clear.low k h;
        high = λ k h. u.high k h ∙ clear.high k h;
      }
