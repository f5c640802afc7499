-- Rows of words: sums, exchanges and moves, a word at a time.
-- Assumes nothing.
use mathlib.Core.Path.{◌≡◌, refl, sym, ap, ap₂, ◌∙◌, subst}
use mathlib.Core.List.{List}
use mathlib.Core.Logic.{◌⊎◌, inl, inr, ⊎_elim}
use Prim.Native.Nat.{ℕ, ◌+◌, ◌-◌, ◌*◌, ◌/◌, ◌%◌, ◌≤◌, ◌<◌}
use native.Mathlib.Nat.{zero-add, mul-zero, div-lt_iff_lt-mul, mul-le-mul_left, div-add-mod'}
use native.Mathlib.Decide.{dec_lt}
use native.Mathlib.Omega.{arith}
use lib.Arith.{digits_div, digits_mod}
use lib.ListN.{length, get_or, set, length-set}
use lib.Seq.{get_or-set_same, get_or-set_other, ext_get_or}
use Rattle.field.specs.Octet.{plus}
use Rattle.field.specs.Runs.{Written, added, part, Apart}
use Rattle.field.proofs.Writing.{written_next, written_same, written_is, written_from}
use Rattle.field.proofs.Parts.{part_at, written_then}
use Rattle.std.specs.List.{CopiedTo, SameBelow, SameFrom}
use Rattle.stores.specs.Rows.{packed_to, Exchanged}

-- the next word of a sum: neither row has changed there yet
pub sum-next : {xs ys : List ℕ} {to from n k : ℕ} → Written (added xs to (part xs from n)) xs ys to k → Apart (length xs) n to from → k < n
    → plus (get_or ys (to + k) 0) (get_or ys (from + k) 0) ≡ added xs to (part xs from n) k
sum-next {xs} {ys} {to} {from} {n} {k} w a h =
    ap₂ plus (written_next w)
    (⊎_elim (λ u. w.high (from + k) (omega arith)) (λ u. w.low (from + k) (omega arith)) a.apart ∙ sym (part_at xs from n k h))

pub exchanged-none : (xs : List ℕ) (i j : ℕ) → Exchanged xs xs i j 0
exchanged-none xs i j = record { size = refl; first = λ k h. absurd (omega arith); second = λ k h. absurd (omega arith); rest = λ q h l. refl }

pub exchanged-is : {xs ys : List ℕ} {i j k n : ℕ} → Exchanged xs ys i j k → k ≡ n → Exchanged xs ys i j n
exchanged-is {xs} {ys} {i} {j} e q = subst (λ (m : ℕ). Exchanged xs ys i j m) q e

-- a row with itself
pub exchanged_same : (xs : List ℕ) (i n : ℕ) → Exchanged xs xs i i n
exchanged_same xs i n = record { size = refl; first = λ k h. refl; second = λ k h. refl; rest = λ q h l. refl }

-- one word more of both rows
module _ {xs ys : List ℕ} {i j n k : ℕ} (e : Exchanged xs ys i j k) (a : Apart (length xs) n i j) (h : k < n) where
  pub exchanged-more : Exchanged xs (set (set ys (i + k) (get_or ys (j + k) 0)) (j + k) (get_or ys (i + k) 0)) i j (k + 1)
  exchanged-more =
      record {
        size = length-set (set ys (i + k) v) (j + k) u ∙ length-set ys (i + k) v ∙ e.size;
        first = λ q b. at_first q b (dec_lt q k);
        second = λ q b. at_second q b (dec_lt q k);
        rest = λ q b d. other q (λ z. ⊎_elim (λ w. omega arith) (λ w. omega arith) b) (λ z. ⊎_elim (λ w. omega arith) (λ w. omega arith) d)
            ∙ e.rest q (⊎_elim (λ w. inl w) (λ w. inr (omega arith)) b) (⊎_elim (λ w. inl w) (λ w. inr (omega arith)) d);
      }
    where
      u : ℕ
      u = get_or ys (i + k) 0

      v : ℕ
      v = get_or ys (j + k) 0

      other : (q : ℕ) → (q ≡ i + k → ⊥) → (q ≡ j + k → ⊥) → get_or (set (set ys (i + k) v) (j + k) u) q 0 ≡ get_or ys q 0
      other q b d = get_or-set_other (set ys (i + k) v) (j + k) q u 0 d ∙ get_or-set_other ys (i + k) q v 0 b

      apart : (p q : ℕ) → p < n → q < n → i + p ≡ j + q → ⊥
      apart p q b d z = ⊎_elim (λ w. omega arith) (λ w. omega arith) a.apart

      old-i : u ≡ get_or xs (i + k) 0
      old-i = e.rest (i + k) (inr (omega arith)) (⊎_elim (λ w. inl (omega arith)) (λ w. inr (omega arith)) a.apart)

      old-j : v ≡ get_or xs (j + k) 0
      old-j = e.rest (j + k) (⊎_elim (λ w. inr (omega arith)) (λ w. inl (omega arith)) a.apart) (inr (omega arith))

      at_first : (q : ℕ) → q < k + 1 → Dec (q < k) → get_or (set (set ys (i + k) v) (j + k) u) (i + q) 0 ≡ get_or xs (j + q) 0
      at_first q b (yes l) = other (i + q) (λ z. omega arith) (apart q k (omega arith) h) ∙ e.first q l
      at_first q b (no l) =
          let m : q ≡ k = omega arith in
          rw m
          (get_or-set_other (set ys (i + k) v) (j + k) (i + k) u 0 (apart k k h h)
          ∙ get_or-set_same ys (i + k) v 0 (omega (arith, e.size, a.to_in)) ∙ old-j)

      at_second : (q : ℕ) → q < k + 1 → Dec (q < k) → get_or (set (set ys (i + k) v) (j + k) u) (j + q) 0 ≡ get_or xs (i + q) 0
      at_second q b (yes l) = other (j + q) (λ z. apart k q h (omega arith) (sym z)) (λ z. omega arith) ∙ e.second q l
      at_second q b (no l) =
          let m : q ≡ k = omega arith in
          rw m (get_or-set_same (set ys (i + k) v) (j + k) u 0 (omega (arith, length-set ys (i + k) v, e.size, a.from_in)) ∙ old-i)

-- nothing else can have come of it
pub exchanged-once : {xs ys zs : List ℕ} {i j n : ℕ} → Exchanged xs ys i j n → Exchanged xs zs i j n → ys ≡ zs
exchanged-once {xs} {ys} {zs} {i} {j} {n} e u = ext_get_or 0 ys zs (e.size ∙ sym u.size) (λ q b. go q (dec_lt q i) (dec_lt q (i + n)) (dec_lt q j) (dec_lt q (j + n)))
  where
    here : (p q : ℕ) → p ≤ q → get_or ys (p + (q - p)) 0 ≡ get_or zs (p + (q - p)) 0 → get_or ys q 0 ≡ get_or zs q 0
    here p q h w = let m : p + (q - p) ≡ q = omega arith in subst (λ (x : ℕ). get_or ys x 0 ≡ get_or zs x 0) m w

    first : (q : ℕ) → i ≤ q → q < i + n → get_or ys q 0 ≡ get_or zs q 0
    first q h l = here i q h (e.first (q - i) (omega arith) ∙ sym (u.first (q - i) (omega arith)))

    second : (q : ℕ) → j ≤ q → q < j + n → get_or ys q 0 ≡ get_or zs q 0
    second q h l = here j q h (e.second (q - j) (omega arith) ∙ sym (u.second (q - j) (omega arith)))

    outside : (q : ℕ) → (q < i) ⊎ (i + n ≤ q) → (q < j) ⊎ (j + n ≤ q) → get_or ys q 0 ≡ get_or zs q 0
    outside q h l = e.rest q h l ∙ sym (u.rest q h l)

    go : (q : ℕ) → Dec (q < i) → Dec (q < i + n) → Dec (q < j) → Dec (q < j + n) → get_or ys q 0 ≡ get_or zs q 0
    go q (yes a) b (yes c) d = outside q (inl a) (inl c)
    go q (yes a) b (no c) (yes d) = second q (omega arith) d
    go q (yes a) b (no c) (no d) = outside q (inl a) (inr (omega arith))
    go q (no a) (yes b) c d = first q (omega arith) b
    go q (no a) (no b) (yes c) d = outside q (inr (omega arith)) (inl c)
    go q (no a) (no b) (no c) (yes d) = second q (omega arith) d
    go q (no a) (no b) (no c) (no d) = outside q (inr (omega arith)) (inr (omega arith))

-- a word of the first m rows of n words is in one of them
pub below_row : (m n k start : ℕ) → k < m * n → m ≤ start → k / n < start
below_row m n k start h l = go (dec_lt 0 n)
  where
    go : Dec (0 < n) → k / n < start
    go (yes p) = let q : k / n < m = (div-lt_iff_lt-mul p).1 h in omega arith
    go (no p) =
        let z : n ≡ 0 = omega arith in
        let e : m * n ≡ 0 = ap (λ (i : ℕ). m * i) z ∙ mul-zero m in
        absurd (omega arith)

-- n words were copied from `from` to `to`
pub copied-down : {xs ys : List ℕ} (from to n : ℕ) → length ys ≡ length xs → CopiedTo xs ys from to (from + n - from) → SameBelow xs ys to
    → SameFrom xs ys (to + (from + n - from)) → Written (λ k. get_or xs (from + k) 0) xs ys to n
copied-down {xs} {ys} from to n e moved below above =
    record {
      size = e;
      part = λ k h. let i : from + (to + k - to) ≡ from + k = omega arith in moved (to + k) 0 (omega arith) (omega arith) ∙ ap (λ (j : ℕ). get_or xs j 0) i;
      low = λ k h. below k 0 h;
      high = λ k h. above k 0 (omega arith);
    }

module _ (xs : List ℕ) (n old : ℕ) where
  pub packed-same : (m : ℕ) → n ≡ old → Written (packed_to xs n old) xs xs 0 (m * n)
  packed-same m e =
      written_same (packed_to xs n old) xs (m * n)
      (λ k h. ap (λ (i : ℕ). get_or xs i 0) (sym (div-add-mod' k n) ∙ ap (λ (i : ℕ). k / n * i + k % n) e))

  -- a row more: it is read where no row was packed to
  pub packed_more : (ys zs : List ℕ) (r : ℕ) → n ≤ old → Written (packed_to xs n old) xs ys 0 (r * n)
      → Written (λ k. get_or ys (r * old + k) 0) ys zs (r * n) n → Written (packed_to xs n old) xs zs 0 ((r + 1) * n)
  packed_more ys zs r h w u =
      written_is
      (written_then w (written_from u (sym (zero-add (r * n))))
      (λ k l. w.high (r * old + k) (omega (arith, mul-le-mul_left r h)) ∙ sym (simp (digits_div r l, digits_mod r l)))) (omega arith)
