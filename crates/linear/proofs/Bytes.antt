-- The three answers over the octets are the three answers of lists of octets.
-- Assumes nothing.
use mathlib.Core.Path.{◌≡◌, refl, sym, ap, ap₂, ◌∙◌}
use mathlib.Core.List.{List}
use Prim.Native.Nat.{ℕ, zero, suc, ◌+◌, ◌*◌, ◌/◌, ◌%◌, ◌<◌}
use native.Mathlib.Nat.{mod-lt, mod-eq_of_lt, div-eq_of_lt, mul-add-div_right, mul-add-mod_self_right, div-lt_iff_lt-mul, div-add-mod', mul-le-mul_right, add-zero}
use native.Mathlib.Omega.{arith}
use native.Mathlib.Decide.{dec_lt}
use lib.ListN.{length, get_or, get_or-eq_default}
use lib.Seq.{ext_get_or}
use Rattle.field.specs.Octet.{times}
use Rattle.field.specs.Sum.{sum}
use Rattle.field.proofs.Laws.{times-lt}
use Rattle.field.proofs.Sums.{sum_lt}
use Rattle.linear.specs.Total.{total}
use Rattle.linear.specs.System.{System, Symbols, Same, Fits, Solved, Contradiction, Open}
use Rattle.linear.specs.Octets.{octets, Octet, oct, value}
use Rattle.linear.specs.Bytes.{cell, Block, OctetSymbols, in_octets, symbols, tabulate, pack, FitsBytes, SolvedBytes, ContradictionBytes, OpenBytes}
use Rattle.linear.proofs.Total.{total_ext}
use Rattle.linear.proofs.System.{same-sym, same-trans, fits-same}
use Rattle.linear.proofs.Octets.{value-lt, oct-value, oct-once, oct-times, oct-sum}
open octets use {◌⊗◌}

infixl 70 ◌⊗◌
-- ---- entries of a matrix that stands in a list

pub cell-lt : (w n i c : ℕ) → i < n → c < w → i * w + c < n * w
cell-lt w n i c hi hc = omega (arith, mul-le-mul_right w hi)

-- the row that a place is in
pub cell-row-of : (w i c : ℕ) → c < w → (i * w + c) / w ≡ i
cell-row-of w i c h =
    let pos : 0 < w = omega arith in
    mul-add-div_right pos i c ∙ ap (λ (z : ℕ). i + z) (div-eq_of_lt h) ∙ add-zero i

pub pos-width : (n w x : ℕ) → x < n * w → 0 < w
pos-width n zero x h = absurd (omega arith)
pos-width n (suc w) x h = omega arith

-- what holds of every entry holds of every place
pub by-cells : (P : ℕ → Type 0) (n w : ℕ) → ((i : ℕ) → i < n → (c : ℕ) → c < w → P (i * w + c)) → (x : ℕ) → x < n * w → P x
by-cells P n w h x l =
    let pos : 0 < w = pos-width n w x l in
    rw (div-add-mod' x w) at (h (x / w) ((div-lt_iff_lt-mul pos).1 l) (x % w) (mod-lt x pos))

-- two lists of n rows are equal by their entries
pub ext-cell : (n w : ℕ) (a b : List ℕ) → length a ≡ n * w → length b ≡ n * w
    → ((i : ℕ) → i < n → (c : ℕ) → c < w → cell w a i c ≡ cell w b i c) → a ≡ b
ext-cell n w a b ha hb h = ext_get_or 0 a b (ha ∙ sym hb) (λ x l. by-cells (λ (y : ℕ). get_or a y 0 ≡ get_or b y 0) n w h x (omega arith))

-- ---- symbols as a list

pub length-tabulate : (n : ℕ) (f : ℕ → ℕ) → length (tabulate n f) ≡ n
unfolding tabulate
length-tabulate zero f = refl
length-tabulate (suc n) f = ap suc (length-tabulate n (λ i. f (suc i)))

pub get_d_tabulate : (n : ℕ) (f : ℕ → ℕ) (i : ℕ) → i < n → get_or (tabulate n f) i 0 ≡ f i
unfolding tabulate
get_d_tabulate zero f i h = absurd (omega arith)
get_d_tabulate (suc n) f zero h = refl
get_d_tabulate (suc n) f (suc i) h = get_d_tabulate n (λ i. f (suc i)) i (omega arith)

cell-pack : (L T : ℕ) (C : Symbols Octet) (c t : ℕ) → c < L → t < T → cell T (pack L T C) c t ≡ value (C c t)
unfolding pack
cell-pack L T C c t hc ht =
    get_d_tabulate (L * T) _ (c * T + t) (cell-lt T L c t hc ht)
    ∙ ap₂ (λ (x y : ℕ). value (C x y)) (cell-row-of T c t ht) (mul-add-mod_self_right c T t ∙ mod-eq_of_lt ht)

pub block-pack : (L T : ℕ) (C : Symbols Octet) → Block L T (pack L T C)
unfolding pack
block-pack L T C = record { size = length-tabulate (L * T) _; bytes = λ i. go i (dec_lt i (L * T)) }
  where
    f : ℕ → ℕ
    f x = value (C (x / T) (x % T))

    go : (i : ℕ) → Dec (i < L * T) → get_or (tabulate (L * T) f) i 0 < 256
    go i (yes h) = rw (get_d_tabulate (L * T) f i h) (value-lt _)
    go i (no h) = rw (get_or-eq_default (tabulate (L * T) f) 0 {n = i} (let e = length-tabulate (L * T) f in omega arith)) (omega arith)

pub symbols-pack : (L T : ℕ) (C : Symbols Octet) → Same L T (symbols T (pack L T C)) C
symbols-pack L T C = record { at = λ c l t q. ap oct (cell-pack L T C c t l q) ∙ oct-value (C c t) }

-- lists with the same octets are equal
pub same_lists : {L T : ℕ} {C D : List ℕ} → Block L T C → Block L T D → Same L T (symbols T C) (symbols T D) → C ≡ D
same_lists {L} {T} {C} {D} b_c b_d s = ext-cell L T C D b_c.size b_d.size (λ c l t q. oct-once _ _ (b_c.bytes _) (b_d.bytes _) (s.at c l t q))

-- ---- what fits, and the answers

module _ (L T : ℕ) (S : System ℕ) where
  row-sum : (C : List ℕ) (i t : ℕ)
      → oct (sum L (λ c. times (S.coef i c) (cell T C c t))) ≡ total octets L (λ c. oct (S.coef i c) ⊗ symbols T C c t)
  row-sum C i t = oct-sum L (λ c. times (S.coef i c) (cell T C c t)) ∙ total_ext octets L (λ c l. oct-times (S.coef i c) (cell T C c t))

  pub fits-of-bytes : {C : List ℕ} → FitsBytes L T S C → Fits octets L T (in_octets S) (symbols T C)
  fits-of-bytes {C} f = record { meets = λ i l t q. sym (row-sum C i t) ∙ ap oct (f.meets i l t q) }

  pub contradiction-bytes : Contradiction octets L T (in_octets S) → ContradictionBytes L T S
  contradiction-bytes s = record { none = λ C b_c f. s.none (symbols T C) (fits-of-bytes f) }

  module _ (small : OctetSymbols T S) where
    pub bytes-of-fits : (C : List ℕ) → Fits octets L T (in_octets S) (symbols T C) → FitsBytes L T S C
    bytes-of-fits C f = record {
      meets = λ i l t q. oct-once _ _ (sum_lt L (λ c h. times-lt (S.coef i c) (cell T C c t))) (small.below i l t q) (row-sum C i t ∙ f.meets i l t q);
    }

    pub packed-fits : (C : Symbols Octet) → Fits octets L T (in_octets S) C → FitsBytes L T S (pack L T C)
    packed-fits C f = bytes-of-fits (pack L T C) (fits-same octets L T (same-sym (symbols-pack L T C)) f)

    pub solved-bytes : (out : List ℕ) → Block L T out → Solved octets L T (in_octets S) (symbols T out) → SolvedBytes L T S out
    solved-bytes out b s = record {
      block = b;
      fits = bytes-of-fits out s.fits;
      only = λ C b_c f. (let same : C ≡ out = same_lists b_c b (s.only (symbols T C) (fits-of-bytes f)) in cc);
    }

    pub open-bytes : Open octets L T (in_octets S) → OpenBytes L T S
    open-bytes o = record {
      first = pack L T o.first;
      second = pack L T o.second;
      first_block = block-pack L T o.first;
      second_block = block-pack L T o.second;
      first_fits = packed-fits o.first o.first_fits;
      second_fits = packed-fits o.second o.second_fits;
      differ =
          λ e.
          let alike : Same L T (symbols T (pack L T o.first)) (symbols T (pack L T o.second)) =
          record { at = λ c l t q. ap (λ (x : List ℕ). symbols T x c t) e } in
          o.differ (same-trans (same-sym (symbols-pack L T o.first)) (same-trans alike (symbols-pack L T o.second)));
    }
