-- Row operations on memory: what they leave in the other rows, and that they are the row operations of linear algebra.
-- Assumes nothing.
use mathlib.Core.Path.{◌≡◌, refl, sym, ap, ap₂, ◌∙◌}
use mathlib.Core.Logic.{◌≢◌}
use mathlib.Core.List.{List}
use Prim.Native.Nat.{ℕ, ◌+◌, ◌-◌, ◌*◌, ◌≤◌, ◌<◌}
use native.Mathlib.Nat.{mul-le-mul_right, zero-add}
use native.Mathlib.Omega.{arith}
use native.Mathlib.Decide.{ℕ_discrete, dec_lt}
use lib.ListN.{length, get_or}
use Rattle.field.specs.Octet.{plus, times}
use Rattle.field.specs.Runs.{Written}
use Rattle.field.proofs.Laws.{one-times}
use Rattle.field.proofs.Writing.{written_as}
use Rattle.linear.specs.Index.{cut, update}
use Rattle.linear.specs.RowOps.{Added, Scaled}
use Rattle.linear.specs.Octets.{octets, Octet, oct}
use Rattle.linear.specs.Bytes.{Bytes, cell, symbols}
use Rattle.linear.specs.Rows.{RowAdded, RowTimes, OnlyBelow}
use Rattle.linear.proofs.Field.{add-zero, zero-mul}
use Rattle.linear.proofs.Index.{update_same, update_other}
use Rattle.linear.proofs.Octets.{oct-one, oct-plus, oct-times}
open octets use {◌⊕◌, ◌⊗◌, 𝟘}

infixl 60 ◌⊕◌
infixl 70 ◌⊗◌
-- ---- what stands where afterwards

-- every other row is as it was
pub row_other : {f : ℕ → ℕ} {xs ys : List ℕ} {w : ℕ} (i : ℕ) → Written f xs ys (i * w) w → (k : ℕ) → k ≢ i → (c : ℕ) → c < w
    → cell w ys k c ≡ cell w xs k c
row_other {f} {xs} {ys} {w} i s k ne c h = go (dec_lt k i)
  where
    go : Dec (k < i) → cell w ys k c ≡ cell w xs k c
    go (yes l) = s.low (k * w + c) (omega (arith, mul-le-mul_right w l))
    go (no l) = let q : i < k = omega arith in s.high (k * w + c) (omega (arith, mul-le-mul_right w q))

-- octets stay octets
pub bytes-written : {f : ℕ → ℕ} {xs ys : List ℕ} {at n : ℕ} → Bytes xs → ((k : ℕ) → k < n → f k < 256) → Written f xs ys at n → Bytes ys
bytes-written {f} {xs} {ys} {at} {n} b small s x = go (dec_lt x at) (dec_lt x (at + n))
  where
    go : Dec (x < at) → Dec (x < at + n) → get_or ys x 0 < 256
    go (yes l) d = rw (s.low x l) (b x)
    go (no l) (no m) = rw (s.high x (omega arith)) (b x)
    go (no l) (yes m) =
        let e : at + (x - at) ≡ x = omega arith in
        let v : get_or ys (at + (x - at)) 0 ≡ f (x - at) = s.part (x - at) (omega arith) in
        let b : f (x - at) < 256 = small (x - at) (omega arith) in
        rw (← e, v) b

-- a sum of two rows, as a sum with the row times 1
pub row-added-once : {w : ℕ} (i k : ℕ) {xs ys : List ℕ} → Bytes xs → Written (λ c. plus (cell w xs i c) (cell w xs k c)) xs ys (i * w) w
    → RowAdded w i k 1 xs ys
row-added-once {w} i k {xs} b s = written_as s (λ c h. ap (plus (cell w xs i c)) (sym (one-times (cell w xs k c) (b _))))

-- ---- nothing changed past a place

pub only : {n : ℕ} {xs ys : List ℕ} → length ys ≡ length xs → ((k : ℕ) → n ≤ k → get_or ys k 0 ≡ get_or xs k 0) → OnlyBelow n xs ys
only {n} {xs} {ys} l h = record {
  size = l;
  part = λ k b. ap (λ (x : ℕ). get_or ys x 0) (zero-add k);
  low = λ k b. absurd (omega arith);
  high = λ k b. h k (omega arith);
}

-- and so it is with every place past it
pub only-past : {n : ℕ} {xs ys : List ℕ} → OnlyBelow n xs ys → (k : ℕ) → n ≤ k → get_or ys k 0 ≡ get_or xs k 0
only-past p k h = p.high k (omega arith)

pub only-refl : {n : ℕ} {xs : List ℕ} → OnlyBelow n xs xs
only-refl = only refl (λ k h. refl)

pub only-trans : {n : ℕ} {xs ys zs : List ℕ} → OnlyBelow n xs ys → OnlyBelow n ys zs → OnlyBelow n xs zs
only-trans p q = only (q.size ∙ p.size) (λ k h. only-past q k h ∙ only-past p k h)

pub only-more : {n m : ℕ} {xs ys : List ℕ} → n ≤ m → OnlyBelow n xs ys → OnlyBelow m xs ys
only-more l p = only p.size (λ k h. only-past p k (omega arith))

pub only-written : {f : ℕ → ℕ} {xs ys : List ℕ} {at n m : ℕ} → at + n ≤ m → Written f xs ys at n → OnlyBelow m xs ys
only-written l p = only p.size (λ k h. p.high k (omega arith))

pub only_row : {f : ℕ → ℕ} {xs ys : List ℕ} {w : ℕ} (i n : ℕ) → i < n → Written f xs ys (i * w) w → OnlyBelow (n * w) xs ys
only_row {w = w} i n l p = only-written (omega (arith, mul-le-mul_right w l)) p

-- what changed below n only, and was written there
pub only_then : {f : ℕ → ℕ} {n : ℕ} {xs ys zs : List ℕ} → OnlyBelow n xs ys → Written f ys zs 0 n → Written f xs zs 0 n
only_then p q = record { size = q.size ∙ p.size; part = q.part; low = λ k h. absurd (omega arith); high = λ k h. q.high k h ∙ p.high k h }

-- ---- the row operations of linear algebra

module _ {w : ℕ} {xs ys : List ℕ} where
  pub row-added : (n i k f : ℕ) → k < n → i ≢ k → RowAdded w i k f xs ys
      → Added octets n k (update i (oct f) (λ _. 𝟘)) (cut w (symbols w xs)) (cut w (symbols w ys))
  row-added n i k f hk ne s = record {
    row_below = hk;
    row_kept = λ c. ap oct (row_other i s k (λ e. ne (sym e)) c.0 c.1);
    others = λ j h q c. go j c.0 c.1 (ℕ_discrete j i);
  }
    where
      factor : ℕ → Octet
      factor = update i (oct f) (λ _. 𝟘)

      go : (j c : ℕ) → c < w → Dec (j ≡ i) → oct (cell w ys j c) ≡ oct (cell w xs j c) ⊕ factor j ⊗ oct (cell w xs k c)
      go j c l (yes e) =
          ap oct (ap (λ (z : ℕ). cell w ys z c) e ∙ s.part c l) ∙ oct-plus (cell w xs i c) (times f (cell w xs k c))
          ∙ ap₂ (λ (x y : Octet). x ⊕ y) (ap (λ (z : ℕ). oct (cell w xs z c)) (sym e))
          (oct-times f (cell w xs k c) ∙ ap (λ (x : Octet). x ⊗ oct (cell w xs k c)) (sym (ap factor e ∙ update_same i (oct f) (λ _. 𝟘))))
      go j c l (no m) =
          ap oct (row_other i s j m c l)
          ∙ sym (ap (λ (x : Octet). oct (cell w xs j c) ⊕ x)
          (ap (λ (x : Octet). x ⊗ oct (cell w xs k c)) (update_other i (oct f) (λ _. 𝟘) j m) ∙ zero-mul octets (oct (cell w xs k c)))
          ∙ add-zero octets (oct (cell w xs j c)))

  pub row_scaled : (n i f g : ℕ) → i < n → times g f ≡ 1 → RowTimes w i f xs ys
      → Scaled octets n i (oct f) (oct g) (cut w (symbols w xs)) (cut w (symbols w ys))
  row_scaled n i f g hi e s = record {
    row_below = hi;
    undone = sym (oct-times g f) ∙ ap oct e ∙ oct-one;
    row = λ c. ap oct (s.part c.0 c.1) ∙ oct-times f (cell w xs i c.0);
    others = λ j h q c. ap oct (row_other i s j q c.0 c.1);
  }
