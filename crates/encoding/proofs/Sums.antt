-- The symbol of a row is the sum of the symbols at the places of its walk.
-- Assumes nothing.
use mathlib.Core.Path.{◌≡◌, refl, sym, ap, ap₂, ◌∙◌, subst}
use mathlib.Core.List.{List}
use Prim.Native.Nat.{ℕ, ◌+◌, ◌-◌, ◌*◌, ◌≤◌, ◌<◌}
use native.Mathlib.Nat.{zero-add}
use native.Mathlib.Numerals.{add-one}
use native.Mathlib.Omega.{arith}
use lib.Bits.{xor_zero_l, xor_zero_r}
use lib.ListN.{length, get_or, take, drop}
use Rattle.field.specs.Octet.{plus, times}
use Rattle.field.specs.Runs.{Written, added}
use Rattle.field.specs.Sum.{sum, unit}
use Rattle.field.proofs.Xor.{assoc}
use Rattle.field.proofs.Laws.{one-times, zero-times}
use Rattle.field.proofs.Parts.{part-is, part_length, part_at, block-ends}
use Rattle.field.proofs.Sums.{sum_same, sum-zero, sum-only, sum-last, sum-swap, sum-times-left, unit-same, unit-other}
use Rattle.field.proofs.Writing.{written_is, written_as}
use Rattle.headers.specs.Bytes.{Laid}
use Rattle.headers.specs.Tuples.{Bounds}
use Rattle.headers.specs.declared.tuple.Tuple.{Tuple}
use Rattle.constraints.specs.Encoding.{visits}
use Rattle.constraints.specs.Walk.{Walks, places}
use Rattle.constraints.proofs.Distinct.{places-lt}
use Rattle.constraints.proofs.Lists.{places-length}
use Rattle.constraints.proofs.Marks.{walk-held}
use Rattle.linear.specs.Bytes.{cell}
use Rattle.encoding.specs.Encoded.{Addable, walked, symbol_added, symbols_added}

-- a unit row picks its symbol
picked : (l : ℕ) (g : ℕ → ℕ) (p : ℕ) → p < l → g p < 256 → sum l (λ c. times (unit c p) (g c)) ≡ g p
picked l g p h b =
    sum-only l (λ c. times (unit c p) (g c)) p h (λ c k n. ap (λ (u : ℕ). times u (g c)) (unit-other c p n) ∙ zero-times (g c))
    ∙ ap (λ (u : ℕ). times u (g p)) (unit-same p p refl) ∙ one-times (g p) b

-- rows first, or places first
visited : (l : ℕ) (g : ℕ → ℕ) (ps : List ℕ) → ((k : ℕ) → k < length ps → get_or ps k 0 < l) → ((c : ℕ) → g c < 256)
    → sum (length ps) (λ k. g (get_or ps k 0)) ≡ sum l (λ c. times (visits ps c) (g c))
unfolding visits
visited l g ps h b =
    sum_same (length ps) (λ k q. sym (picked l g (get_or ps k 0) (h k q) (b (get_or ps k 0))))
    ∙ sum-swap (length ps) l (λ k c. times (unit c (get_or ps k 0)) (g c))
    ∙ sum_same l (λ c q. sym (sum-times-left (length ps) (g c) (λ k. unit c (get_or ps k 0))))

-- ---- adding a symbol

pub symbol-added : (t p : ℕ) (d C ys : List ℕ) → p * t + t ≤ length C
    → Written (added d 0 (take (p * t + t - p * t) (drop (p * t) C))) d ys 0 (length (take (p * t + t - p * t) (drop (p * t) C)))
    → Written (symbol_added t d C p) d ys 0 t
symbol-added t p d C ys h u =
    let v : Written (added d 0 (take t (drop (p * t) C))) d ys 0 (length (take t (drop (p * t) C))) = rw (part-is C (p * t) t) at u in
    written_as (written_is v (part_length C (p * t) t h))
    (λ k q. ap₂ plus (ap (λ (i : ℕ). get_or d i 0) (zero-add k)) (part_at C (p * t) t k q))

-- ---- adding one after another

pub none-added : (t : ℕ) (d C ps : List ℕ) → Written (symbols_added t d C ps 0) d d 0 t
none-added t d C ps =
    record {
      size = refl;
      part = λ k h.
          ap (λ (i : ℕ). get_or d i 0) (zero-add k) ∙ sym (xor_zero_r (get_or d k 0))
          ∙ ap (plus (get_or d k 0)) (sym (sum-zero 0 (λ j b. absurd (omega arith))));
      low = λ k h. refl;
      high = λ k h. refl;
    }

pub one-added : (t : ℕ) (d C ps ys zs : List ℕ) (i : ℕ)
    → Written (symbols_added t d C ps i) d ys 0 t → Written (symbol_added t ys C (get_or ps i 0)) ys zs 0 t
    → Written (symbols_added t d C ps (i + 1)) d zs 0 t
one-added t d C ps ys zs i w u =
    record {
      size = u.size ∙ w.size;
      part = λ k h.
          u.part k h ∙ ap (λ (x : ℕ). plus x (cell t C (get_or ps i 0) k)) (ap (λ (j : ℕ). get_or ys j 0) (sym (zero-add k)) ∙ w.part k h)
          ∙ assoc (get_or d k 0) (sum i (λ j. cell t C (get_or ps j 0) k)) (cell t C (get_or ps i 0) k)
          ∙ ap (plus (get_or d k 0)) (sym (sum-last i (λ j. cell t C (get_or ps j 0) k)))
          ∙ ap (λ (j : ℕ). symbols_added t d C ps j k) (sym (add-one i));
      low = λ k h. u.low k h ∙ w.low k h;
      high = λ k h. u.high k h ∙ w.high k h;
    }

pub enough-added : (t : ℕ) (d C ps : List ℕ) {ys : List ℕ} {i n : ℕ} → Written (symbols_added t d C ps i) d ys 0 t → i ≡ n
    → Written (symbols_added t d C ps n) d ys 0 t
enough-added t d C ps {ys} w e = subst (λ (j : ℕ). Written (symbols_added t d C ps j) d ys 0 t) e w

-- ---- the whole walk

module _ (w p p1 : ℕ) (z : Tuple) (s : Walks w p p1) (b : Bounds w p1 z) (t : ℕ) (C : List ℕ) {old list xs ys : List ℕ}
    (laid : Laid (places w p p1 z) old list 0) (clear : Written (λ k. 0) xs ys 0 t) where
  held : (k : ℕ) → k < z.d + z.d1 → get_or list k 0 ≡ get_or (places w p p1 z) k 0
  held = walk-held w p p1 z laid

  pub addable : {n : ℕ} → n ≤ z.d + z.d1 → z.d + z.d1 ≤ length list → t ≤ length xs → (w + p) * t ≤ length C → Addable t ys C list n
  addable {n} some r room enough =
      record {
        read = omega arith;
        inside = λ k h.
            let i = places-lt w p p1 z s b k (omega (arith, places-length w p p1 z)) in
            let l : get_or list k 0 < w + p = rw (held k (omega arith)) i in
            omega (arith, block-ends t l);
        room = omega (arith, clear.size);
      }

  pub all-added : {zs : List ℕ} → ((i : ℕ) → get_or C i 0 < 256) → Written (symbols_added t ys C list (z.d + z.d1)) ys zs 0 t
      → Written (walked t C (w + p) (places w p p1 z)) xs zs 0 t
  all-added {zs} bytes u =
      let ps = places w p p1 z in
      record {
        size = u.size ∙ clear.size;
        part = λ k h.
            let met = sum (z.d + z.d1) (λ j. cell t C (get_or list j 0) k) in
            u.part k h ∙ ap (λ (x : ℕ). plus x met) (ap (λ (j : ℕ). get_or ys j 0) (sym (zero-add k)) ∙ clear.part k h)
            ∙ xor_zero_l met
            ∙ sum_same (z.d + z.d1) (λ j l. ap (λ (q : ℕ). cell t C q k) (held j l))
            ∙ ap (λ (n : ℕ). sum n (λ j. cell t C (get_or ps j 0) k)) (sym (places-length w p p1 z))
            ∙ visited (w + p) (λ c. cell t C c k) ps (places-lt w p p1 z s b) (λ c. bytes (c * t + k));
        low = λ k h. u.low k h ∙ clear.low k h;
        high = λ k h. u.high k h ∙ clear.high k h;
      }
