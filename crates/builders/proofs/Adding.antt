-- Ones added to a binary matrix: one of them, and one after the other.
-- Assumes nothing.
use mathlib.Core.Path.{◌≡◌, refl, sym, ap, ap₂, ◌∙◌, subst}
use mathlib.Core.List.{List}
use Prim.Native.Nat.{ℕ, ◌+◌, ◌-◌, ◌/◌, ◌≤◌, ◌<◌}
use native.Mathlib.Decide.{ℕ_discrete}
use native.Mathlib.Numerals.{add-one}
use native.Mathlib.Omega.{arith}
use borrow.Author.Tests.{eq-eqb}
use lib.Bits.{xor_zero_r}
use lib.ListN.{length}
use Rattle.field.specs.Octet.{plus}
use Rattle.field.specs.Sum.{sum}
use Rattle.field.proofs.Laws.{bit}
use Rattle.field.proofs.Parts.{block-ends}
use Rattle.field.proofs.Sums.{sum-zero, sum-last, unit-same}
use Rattle.field.proofs.Xor.{assoc}
use Rattle.stores.specs.Matrix.{entry, row_at, row_words}
use Rattle.stores.specs.declared.matrix.DenseBinaryMatrix.{DenseBinaryMatrix}
use Rattle.stores.proofs.Columns.{Put}
use Rattle.stores.proofs.Entries.{entry_lt, set-entry, set_other}
use Rattle.constraints.specs.Ldpc.{adds}
use Rattle.constraints.proofs.Closed.{other_row, other-column}
use Rattle.builders.specs.Adding.{Added, Lies}

adds-here : (i j : ℕ) → adds i j i j ≡ 1
unfolding adds
adds-here i j = rw (eq-eqb i i refl) (unit-same j j refl)

adds-else : (r c i j : ℕ) → ((r ≡ i) × (c ≡ j) → ⊥) → adds r c i j ≡ 0
adds-else r c i j n = go (ℕ_discrete r i)
  where
    go : Dec (r ≡ i) → adds r c i j ≡ 0
    go (yes e) = other-column r c i j (λ z. n (e, z))
    go (no e) = other_row r c i j e

-- a bit and its opposite
flipped : (v : ℕ) → v < 2 → 1 - v ≡ plus v 1
flipped v h = bit (λ (x : ℕ). 1 - x ≡ plus x 1) refl refl v h

-- the words of a column lie inside
pub column-inside : {m : DenseBinaryMatrix} {xs : List ℕ} → Lies m xs → (i j : ℕ) → i < m.height → j < m.width
    → (row_at m i + j / 64 < length xs) × (j / 64 < row_words m.width) × (row_at m i ≤ length xs)
column-inside {m} {xs} l i j hi hj =
    let b = block-ends (row_words m.width) hi in
    let q : j / 64 < row_words m.width = omega arith in
    (omega (arith, l.room), q, omega (arith, l.room))

module _ {m : DenseBinaryMatrix} where
  pub added_none : (xs : List ℕ) → Added (λ r c. 0) xs xs m
  added_none xs = record { size = refl; bits = λ r c h l. sym (xor_zero_r (entry m xs r c)); high = λ k h. refl }

  pub added_then : {f g h : ℕ → ℕ → ℕ} {xs ys zs : List ℕ} → Added f xs ys m → Added g ys zs m → ((r c : ℕ) → h r c ≡ plus (f r c) (g r c)) → Added h xs zs m
  added_then {f} {g} {h} {xs} {ys} {zs} u w e =
      record {
        size = w.size ∙ u.size;
        bits = λ r c b l.
            w.bits r c b l ∙ ap (λ (x : ℕ). plus x (g r c)) (u.bits r c b l) ∙ assoc (entry m xs r c) (f r c) (g r c) ∙ ap (plus (entry m xs r c)) (sym (e r c));
        high = λ k b. w.high k b ∙ u.high k b;
      }

  pub added-as : {f g : ℕ → ℕ → ℕ} {xs ys : List ℕ} → Added f xs ys m → ((r c : ℕ) → f r c ≡ g r c) → Added g xs ys m
  added-as {f} {g} {xs} {ys} u e = record { size = u.size; bits = λ r c b l. u.bits r c b l ∙ ap (plus (entry m xs r c)) (e r c); high = u.high }

  -- one of them
  pub added-one : {xs ys : List ℕ} (i j : ℕ) {v : ℕ} → Lies m xs → i < m.height → j < m.width → v ≡ entry m xs i j → Put xs ys (row_at m i) j (1 - v)
      → Added (λ r c. adds r c i j) xs ys m
  added-one {xs} {ys} i j {v} l hi hj e w =
      let q = column-inside l i j hi hj in
      let b = block-ends (row_words m.width) hi in
      record {
        size = w.size;
        bits = λ r c h k. go r c k q.1 (ℕ_discrete r i) (ℕ_discrete c j);
        high = λ k h. w.high k (omega arith);
      }
    where
      small : v < 2
      small = subst (λ (x : ℕ). x < 2) (sym e) (entry_lt m xs ys i j)

      turned : j / 64 < row_words m.width → entry m ys i j ≡ plus (entry m xs i j) (adds i j i j)
      turned k =
          set-entry m xs ys i j (1 - v) w (omega (arith, small)) k ∙ flipped v small
          ∙ ap₂ plus e (sym (adds-here i j))

      other : (r c : ℕ) → c / 64 < row_words m.width → j / 64 < row_words m.width → ((r ≡ i) × (c ≡ j) → ⊥) → entry m ys r c ≡ plus (entry m xs r c) (adds r c i j)
      other r c k k₂ n =
          set_other m xs ys i j (1 - v) w (omega (arith, small)) k₂ r c k n
          ∙ sym (ap (plus (entry m xs r c)) (adds-else r c i j n) ∙ xor_zero_r (entry m xs r c))

      go : (r c : ℕ) → c / 64 < row_words m.width → j / 64 < row_words m.width → Dec (r ≡ i) → Dec (c ≡ j) → entry m ys r c ≡ plus (entry m xs r c) (adds r c i j)
      go r c k k₂ (yes p) (yes q) = ap₂ (λ (x y : ℕ). entry m ys x y) p q ∙ turned k₂ ∙ sym (ap₂ (λ (x y : ℕ). plus (entry m xs x y) (adds x y i j)) p q)
      go r c k k₂ (yes p) (no q) = other r c k k₂ (λ z. q z.1)
      go r c k k₂ (no p) q = other r c k k₂ (λ z. p z.0)

  -- ---- sums of them, a term at a time

  pub sums_none : (f : ℕ → ℕ → ℕ → ℕ) (xs : List ℕ) → Added (λ r c. sum 0 (f r c)) xs xs m
  sums_none f xs = added-as (added_none xs) (λ r c. sym (sum-zero 0 (λ k h. absurd (omega arith))))

  pub sums-more : (f : ℕ → ℕ → ℕ → ℕ) (k : ℕ) {xs ys zs : List ℕ} → Added (λ r c. sum k (f r c)) xs ys m → Added (λ r c. f r c k) ys zs m
      → Added (λ r c. sum (k + 1) (f r c)) xs zs m
  sums-more f k u w = added_then u w (λ r c. ap (λ (n : ℕ). sum n (f r c)) (add-one k) ∙ sum-last k (f r c))

  pub sums-is : (f : ℕ → ℕ → ℕ → ℕ) {k n : ℕ} {xs ys : List ℕ} → Added (λ r c. sum k (f r c)) xs ys m → k ≡ n → Added (λ r c. sum n (f r c)) xs ys m
  sums-is f {k} {n} {xs} {ys} u e = subst (λ (i : ℕ). Added (λ r c. sum i (f r c)) xs ys m) e u

  pub lies-on : {xs ys : List ℕ} → Lies m xs → length ys ≡ length xs → Lies m ys
  lies-on l e = record { narrow = l.narrow; room = omega (arith, l.room) }
