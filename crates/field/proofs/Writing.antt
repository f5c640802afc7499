-- Memory that was written: how a loop gets there a place at a time, and that the word settles every place.
-- Assumes nothing.
use mathlib.Core.Path.{◌≡◌, refl, sym, ap, ◌∙◌, subst}
use mathlib.Core.List.{List}
use Prim.Native.Nat.{ℕ, ◌+◌, ◌-◌, ◌<◌}
use native.Mathlib.Nat.{zero-add}
use native.Mathlib.Decide.{dec_lt}
use native.Mathlib.Omega.{arith}
use lib.ListN.{length, get_or, set, length-set}
use lib.Seq.{get_or-set_same, get_or-set_other, ext_get_or}
use Rattle.field.specs.Octet.{plus, times}
use Rattle.field.specs.Runs.{Written, added, fused}
use Rattle.field.proofs.Laws.{one-times}

-- nothing yet
pub written_none : (f : ℕ → ℕ) (xs : List ℕ) (at : ℕ) → Written f xs xs at 0
written_none f xs at = record { size = refl; part = λ k h. absurd (omega arith); low = λ k h. refl; high = λ k h. refl }

-- nothing was to change
pub written_same : (f : ℕ → ℕ) (xs : List ℕ) (n : ℕ) → ((k : ℕ) → k < n → get_or xs k 0 ≡ f k) → Written f xs xs 0 n
written_same f xs n e = record { size = refl; part = λ k h. ap (λ (i : ℕ). get_or xs i 0) (zero-add k) ∙ e k h; low = λ k h. refl; high = λ k h. refl }

module _ {f : ℕ → ℕ} {xs ys : List ℕ} {at n : ℕ} (w : Written f xs ys at n) where
  -- the next place still holds what it did
  pub written_next : get_or ys (at + n) 0 ≡ get_or xs (at + n) 0
  written_next = w.high (at + n) (omega arith)

  -- one place more, which now holds v
  pub written-more : {j v : ℕ} → j ≡ at + n → j < length xs → v ≡ f n → Written f xs (set ys j v) at (n + 1)
  written-more {j} {v} e b q =
      record {
        size = length-set ys j v ∙ w.size;
        part = λ k h. here k h (dec_lt k n);
        low = λ k h. get_or-set_other ys j k v 0 (λ z. omega arith) ∙ w.low k h;
        high = λ k h. get_or-set_other ys j k v 0 (λ z. omega arith) ∙ w.high k (omega arith);
      }
    where
      here : (k : ℕ) → k < n + 1 → Dec (k < n) → get_or (set ys j v) (at + k) 0 ≡ f k
      here k h (yes l) = get_or-set_other ys j (at + k) v 0 (λ z. omega arith) ∙ w.part k l
      here k h (no l) =
          let i : at + k ≡ j = omega arith in
          let m : n ≡ k = omega arith in
          ap (λ (x : ℕ). get_or (set ys j v) x 0) i ∙ get_or-set_same ys j v 0 (omega (arith, w.size)) ∙ q ∙ ap f m

  pub written_is : {m : ℕ} → n ≡ m → Written f xs ys at m
  written_is e = subst (Written f xs ys at) e w

  pub written_from : {from : ℕ} → at ≡ from → Written f xs ys from n
  written_from e = subst (λ (i : ℕ). Written f xs ys i n) e w

  -- the same with another rule that agrees with f
  pub written_as : {g : ℕ → ℕ} → ((k : ℕ) → k < n → f k ≡ g k) → Written g xs ys at n
  written_as e = record { size = w.size; part = λ k h. w.part k h ∙ e k h; low = w.low; high = w.high }

  -- nothing else can have been written
  pub written_once : {zs : List ℕ} → Written f xs zs at n → ys ≡ zs
  written_once {zs} u = ext_get_or 0 ys zs (w.size ∙ sym u.size) (λ k b. go k (dec_lt k at) (dec_lt k (at + n)))
    where
      go : (k : ℕ) → Dec (k < at) → Dec (k < at + n) → get_or ys k 0 ≡ get_or zs k 0
      go k (yes l) d = w.low k l ∙ sym (u.low k l)
      go k (no l) (no m) = w.high k (omega arith) ∙ sym (u.high k (omega arith))
      go k (no l) (yes m) =
          let i : at + (k - at) ≡ k = omega arith in
          subst (λ (x : ℕ). get_or ys x 0 ≡ get_or zs x 0) i (w.part (k - at) (omega arith) ∙ sym (u.part (k - at) (omega arith)))

-- a sum is a sum with 1 times the run
pub added-fused : {d d₁ : List ℕ} {at n : ℕ} (s : List ℕ) (c : ℕ) → c ≡ 1 → ((i : ℕ) → get_or s i 0 < 256)
    → Written (added d at s) d d₁ at n → Written (fused d at c s) d d₁ at n
added-fused {d} {at = at} s c e b w =
    written_as w (λ k h. ap (plus (get_or d (at + k) 0)) (sym (ap (λ (z : ℕ). times z (get_or s k 0)) e ∙ one-times (get_or s k 0) (b k))))
