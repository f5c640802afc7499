-- One symbol of a slab is written: in its own part, or in one of the two parts at which the slab was split.
-- Assumes nothing.
use mathlib.Core.Path.{◌≡◌, refl, sym, ap, ◌∙◌}
use mathlib.Core.Bool.{Bool}
use mathlib.Core.List.{List, ◌++◌}
use Prim.Native.Nat.{ℕ, ◌+◌, ◌-◌, ◌≤◌, ◌<◌}
use native.Mathlib.Nat.{zero-add, add-sub_cancel_left}
use native.Mathlib.Decide.{dec_lt}
use native.Mathlib.Omega.{arith}
use lib.ListN.{length, get_or, take, drop, length-append, get_or-append}
use lib.Seq.{get_or-append-add}
use Rattle.field.specs.Runs.{Written, part, zero_from}
use Rattle.field.proofs.Writing.{written_is}
use Rattle.field.proofs.Zeros.{zero-written, all-zero-same}
use Rattle.field.proofs.Parts.{splice, part_length, part-is, written-part}

behind : (low high : List ℕ) (k : ℕ) {at : ℕ} → length low ≡ at → get_or high k 0 ≡ get_or (low ++ high) (at + k) 0
behind low high k e = sym (ap (λ (i : ℕ). get_or (low ++ high) (i + k) 0) (sym e) ∙ get_or-append-add low high k 0)

-- what is told of the part that was written is told of the symbol
pub told-whole : {f g : ℕ → ℕ} {p zs xs ys : List ℕ} {to n m : ℕ} {zero : Bool} → Written g p zs 0 m → Written f xs ys to n → m ≡ n
    → ((k : ℕ) → k < n → g k ≡ f k) → zero ≡ zero_from zs 0 m → zero ≡ zero_from ys to n
told-whole {f} {g} {zs = zs} {n = n} u w e same r =
    r ∙ ap (zero_from zs 0) e ∙ sym (zero-written (written_is u e)) ∙ all-zero-same g f n same ∙ zero-written w

-- a part that came back written whole is the symbol written
pub part-whole : {f : ℕ → ℕ} {zs : List ℕ} (xs : List ℕ) (to t : ℕ) {m : ℕ} → Written f (take (to + t - to) (drop to xs)) zs 0 m → m ≡ t
    → to + t ≤ length xs → Written f xs (splice xs to (to + t - to) zs) to t
part-whole xs to t u e h =
    let z : to + 0 ≡ to = omega arith in
    rw (add-sub_cancel_left to t) (rw z at (written-part xs to t (written_is (rw (add-sub_cancel_left to t) at u) e) h (omega arith)))

-- the slab was split: the symbol was written in the one part, or in the other
module _ {f : ℕ → ℕ} {xs ys : List ℕ} (low high : List ℕ) {to t : ℕ} (w : Written f low ys to t) (q : xs ≡ low ++ high) (h : to + t ≤ length low) where
  past : (k : ℕ) → to + t ≤ k → Dec (k < length low) → get_or (ys ++ high) k 0 ≡ get_or (low ++ high) k 0
  past k b (yes l) = get_or-append ys high 0 k (omega (arith, w.size)) ∙ w.high k b ∙ sym (get_or-append low high 0 k l)
  past k b (no l) =
      let i : k ≡ length low + (k - length low) = omega arith in
      ap (λ (j : ℕ). get_or (ys ++ high) j 0) i ∙ sym (behind ys high (k - length low) w.size) ∙ behind low high (k - length low) refl
      ∙ ap (λ (j : ℕ). get_or (low ++ high) j 0) (sym i)

  pub written-front : Written f xs (ys ++ high) to t
  written-front =
      record {
        size = simp (q, length-append, w.size);
        part = λ k b. get_or-append ys high 0 (to + k) (omega (arith, w.size)) ∙ w.part k b;
        low = λ k b.
            get_or-append ys high 0 k (omega (arith, w.size)) ∙ w.low k b ∙ sym (get_or-append low high 0 k (omega arith))
            ∙ ap (λ (l : List ℕ). get_or l k 0) (sym q);
        high = λ k b. past k b (dec_lt k (length low)) ∙ ap (λ (l : List ℕ). get_or l k 0) (sym q);
      }

module _ {f g : ℕ → ℕ} {xs zs : List ℕ} (low high : List ℕ) (at : ℕ) {n m : ℕ} where
  pub written-behind : Written g high zs 0 m → m ≡ n → length low ≡ at → xs ≡ low ++ high → ((k : ℕ) → k < n → g k ≡ f k) → Written f xs (low ++ zs) at n
  written-behind w e h q same =
      record {
        size = simp (q, length-append, w.size);
        part = λ k b. sym (behind low zs k h) ∙ ap (λ (i : ℕ). get_or zs i 0) (sym (zero-add k)) ∙ w.part k (omega arith) ∙ same k b;
        low = λ k b. get_or-append low zs 0 k (omega arith) ∙ sym (ap (λ (l : List ℕ). get_or l k 0) q ∙ get_or-append low high 0 k (omega arith));
        high = λ k b.
            let i : k ≡ at + (k - at) = omega arith in
            ap (λ (j : ℕ). get_or (low ++ zs) j 0) i ∙ sym (behind low zs (k - at) h) ∙ w.high (k - at) (omega arith) ∙ behind low high (k - at) h
            ∙ sym (ap (λ (l : List ℕ). get_or l k 0) q ∙ ap (λ (j : ℕ). get_or (low ++ high) j 0) i);
      }

-- the symbol's part is written whole, each byte from its own place, and what is told of the part is told of the symbol
module _ (g : ℕ → ℕ) {zs : List ℕ} (xs : List ℕ) (to t : ℕ) (h : to + t ≤ length xs)
    (u : Written (λ k. g (get_or (take (to + t - to) (drop to xs)) k 0)) (take (to + t - to) (drop to xs)) zs 0 (length (take (to + t - to) (drop to xs)))) where
  own-part : Written (λ k. g (get_or (part xs to t) k 0)) (part xs to t) zs 0 t
  own-part = written_is (rw (add-sub_cancel_left to t) at u) (part_length xs to t h)

  pub whole : Written (λ k. g (get_or (part xs to t) k 0)) xs (splice xs to (to + t - to) zs) to t
  whole =
      let z : to + 0 ≡ to = omega arith in
      rw (add-sub_cancel_left to t) (rw z at (written-part xs to t own-part h (omega (arith, part_length xs to t h))))

  pub whole-told : {zero : Bool} → zero ≡ zero_from zs 0 (length (take (to + t - to) (drop to xs))) → zero ≡ zero_from (splice xs to (to + t - to) zs) to t
  whole-told r =
      r ∙ ap (λ (m : ℕ). zero_from zs 0 m) (ap length (part-is xs to t) ∙ part_length xs to t h) ∙ sym (zero-written own-part) ∙ zero-written whole
