-- A grid of rows in a store, and a row by itself, filled column by column from the right, is memory that was written.
-- Assumes nothing.
use mathlib.Core.Path.{◌≡◌, refl, sym, ap, ◌∙◌, subst}
use mathlib.Core.List.{List}
use Prim.Native.Nat.{ℕ, ◌+◌, ◌*◌, ◌/◌, ◌%◌, ◌<◌, ◌≤◌}
use native.Mathlib.Nat.{mod-lt, div-add-mod', div-lt_iff_lt-mul, mul-lt-mul_of_pos_right}
use native.Mathlib.Decide.{dec_lt}
use native.Mathlib.Omega.{arith}
use lib.Arith.{digits_lt, digits_mod}
use lib.ListN.{length, get_or, set, length-set}
use lib.Seq.{get_or-set_same, get_or-set_other}
use Rattle.field.specs.Runs.{Written}
use Rattle.constraints.specs.Grid.{cells, GridRoom, Column, FilledFrom, RowFrom}

-- the places of one column
pub inside : {xs : List ℕ} {at h l c : ℕ} → GridRoom xs at h l c → (i : ℕ) → i < h → at + i * l + c < length xs
inside {xs} {at} {h} {l} {c} m i b = omega (arith, digits_lt {q = i} {m = h} b m.column, m.holds)

pub column-only : (l i r c q : ℕ) → c < l → q < l → i * l + c ≡ r * l + q → c ≡ q
column-only l i r c q hc hq e = sym (digits_mod i hc) ∙ ap (λ (x : ℕ). x % l) e ∙ digits_mod r hq

-- ---- one column

pub column-none : (f : ℕ → ℕ) (xs : List ℕ) (at l c : ℕ) → Column f xs xs at 0 l c
column-none f xs at l c = record { size = refl; part = λ r h. absurd (omega arith); others = λ k n. refl }

pub column-more : {f : ℕ → ℕ} {xs ys : List ℕ} {at i l c v : ℕ} → Column f xs ys at i l c → 0 < l → at + i * l + c < length xs → v ≡ f i
    → Column f xs (set ys (at + i * l + c) v) at (i + 1) l c
column-more {f} {xs} {ys} {at} {i} {l} {c} {v} w p b e =
    record {
      size = length-set ys (at + i * l + c) v ∙ w.size;
      part = λ r h. here r h (dec_lt r i);
      others = λ k n. get_or-set_other ys (at + i * l + c) k v 0 (n i (omega arith)) ∙ w.others k (λ r h. n r (omega arith));
    }
  where
    here : (r : ℕ) → r < i + 1 → Dec (r < i) → get_or (set ys (at + i * l + c) v) (at + r * l + c) 0 ≡ f r
    here r h (yes a) =
        get_or-set_other ys (at + i * l + c) (at + r * l + c) v 0 (λ q. omega (arith, mul-lt-mul_of_pos_right {m = r} {n = i} {k = l} a p)) ∙ w.part r a
    here r h (no a) =
        let q : i ≡ r = omega arith in
        subst (λ (x : ℕ). get_or (set ys (at + i * l + c) v) (at + x * l + c) 0 ≡ f x) q (get_or-set_same ys (at + i * l + c) v 0 (omega (arith, w.size)) ∙ e)

pub column-is : {f : ℕ → ℕ} {xs ys : List ℕ} {at i h l c : ℕ} → Column f xs ys at i l c → i ≡ h → Column f xs ys at h l c
column-is {f} {xs} {ys} {at} {i} {h} {l} {c} w e = subst (λ (n : ℕ). Column f xs ys at n l c) e w

-- the column to the right is as it was
pub column-right : {f : ℕ → ℕ} {xs ys : List ℕ} {at i l c : ℕ} → Column f xs ys at i l c → c + 1 < l → (r : ℕ)
    → get_or ys (at + r * l + c + 1) 0 ≡ get_or xs (at + r * l + c + 1) 0
column-right {f} {xs} {ys} {at} {i} {l} {c} w b r =
    w.others (at + r * l + c + 1) (λ q h e. let z : c + 1 ≡ c = column-only l r q (c + 1) c b (omega arith) (omega arith) in omega arith)

-- ---- all columns from c on

pub filled_more : {g : ℕ → ℕ → ℕ} {f : ℕ → ℕ} {xs ys zs : List ℕ} {at h l c d : ℕ} → FilledFrom g xs ys at h l d → d ≡ c + 1 → c < l
    → Column f ys zs at h l c → ((r : ℕ) → r < h → f r ≡ g r c) → FilledFrom g xs zs at h l c
filled_more {g} {f} {xs} {ys} {zs} {at} {h} {l} {c} {d} w q b u e =
    record {
      size = u.size ∙ w.size;
      part = λ r k hr hk a. here r k hr hk a (dec_lt c k);
      low = λ k n. u.others k (λ r hr z. omega arith) ∙ w.low k n;
      high = λ k n. u.others k (λ r hr z. omega (arith, digits_lt {q = r} {m = h} hr b)) ∙ w.high k n;
    }
  where
    here : (r k : ℕ) → r < h → k < l → c ≤ k → Dec (c < k) → get_or zs (at + r * l + k) 0 ≡ g r k
    here r k hr hk a (yes t) =
        u.others (at + r * l + k) (λ s hs z. let y : k ≡ c = column-only l r s k c hk b (omega arith) in omega arith) ∙ w.part r k hr hk (omega arith)
    here r k hr hk a (no t) =
        let y : c ≡ k = omega arith in
        subst (λ (x : ℕ). get_or zs (at + r * l + x) 0 ≡ g r x) y (u.part r hr ∙ e r hr)

pub filled-self : {g : ℕ → ℕ → ℕ} {xs ys : List ℕ} {at h l c : ℕ} → FilledFrom g xs ys at h l c → FilledFrom g ys ys at h l c
filled-self w = record { size = refl; part = w.part; low = λ k n. refl; high = λ k n. refl }

pub filled_trans : {g : ℕ → ℕ → ℕ} {xs ys zs : List ℕ} {at h l c d : ℕ}
    → FilledFrom g xs ys at h l c → FilledFrom g ys zs at h l d → FilledFrom g xs zs at h l d
filled_trans u w =
    record { size = w.size ∙ u.size; part = w.part; low = λ k n. w.low k n ∙ u.low k n; high = λ k n. w.high k n ∙ u.high k n }

-- with every column filled the rows are written
pub filled-all : {g : ℕ → ℕ → ℕ} {xs ys : List ℕ} {at h l c : ℕ} → FilledFrom g xs ys at h l c → c ≡ 0 → 0 < l → Written (cells l g) xs ys at (h * l)
filled-all {g} {xs} {ys} {at} {h} {l} {c} w e p = record { size = w.size; part = here; low = w.low; high = w.high }
  where
    here : (k : ℕ) → k < h * l → get_or ys (at + k) 0 ≡ g (k / l) (k % l)
    here k b =
        let r : k / l < h = (div-lt_iff_lt-mul {k = l} {x = k} {y = h} p).1 b in
        let i : at + k ≡ at + k / l * l + k % l = omega (arith, div-add-mod' k l) in
        ap (λ (x : ℕ). get_or ys x 0) i ∙ w.part (k / l) (k % l) r (mod-lt k p) (omega arith)

-- ---- a row by itself

pub row-none : (g : ℕ → ℕ) (xs : List ℕ) (at l : ℕ) → RowFrom g xs xs at l l
row-none g xs at l = record { size = refl; part = λ q h a. absurd (omega arith); low = λ k h. refl; high = λ k h. refl }

-- the column before it, which now holds v
pub row_more : {g : ℕ → ℕ} {xs ys : List ℕ} {at l c d v : ℕ} → RowFrom g xs ys at l d → d ≡ c + 1 → c < l → at + c < length xs → v ≡ g c
    → RowFrom g xs (set ys (at + c) v) at l c
row_more {g} {xs} {ys} {at} {l} {c} {d} {v} w e b i q =
    record {
      size = length-set ys (at + c) v ∙ w.size;
      part = λ k h a. here k h a (dec_lt c k);
      low = λ k h. get_or-set_other ys (at + c) k v 0 (λ z. omega arith) ∙ w.low k h;
      high = λ k h. get_or-set_other ys (at + c) k v 0 (λ z. omega arith) ∙ w.high k h;
    }
  where
    here : (k : ℕ) → k < l → c ≤ k → Dec (c < k) → get_or (set ys (at + c) v) (at + k) 0 ≡ g k
    here k h a (yes t) = get_or-set_other ys (at + c) (at + k) v 0 (λ z. omega arith) ∙ w.part k h (omega arith)
    here k h a (no t) =
        let z : c ≡ k = omega arith in
        subst (λ (x : ℕ). get_or (set ys (at + c) v) (at + x) 0 ≡ g x) z (get_or-set_same ys (at + c) v 0 (omega (arith, w.size)) ∙ q)

pub row-all : {g : ℕ → ℕ} {xs ys : List ℕ} {at l c : ℕ} → RowFrom g xs ys at l c → c ≡ 0 → Written g xs ys at l
row-all w e = record { size = w.size; part = λ k h. w.part k h (omega arith); low = w.low; high = w.high }
