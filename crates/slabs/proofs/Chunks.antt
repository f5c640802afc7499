-- One symbol of a slab is written by chunks that were copied out of another symbol of the same slab: the law of a turn. The code splits the slab and
-- copies nothing; the law holds of whoever copies.
-- Assumes nothing.
use mathlib.Core.Path.{◌≡◌, sym, ap, ap₂, ◌∙◌}
use mathlib.Core.Bool.{Bool}
use mathlib.Core.List.{List, ◌++◌}
use mathlib.Core.Logic.{⊎_elim}
use Prim.Native.Nat.{ℕ, ◌+◌, ◌-◌, ◌≤◌, ◌<◌}
use native.Mathlib.Nat.{add-sub_cancel_left}
use native.Mathlib.Omega.{arith}
use lib.ListN.{length, get_or, take, drop, length-append, length-drop}
use lib.Seq.{take-length, length-take-le}
use Rattle.field.specs.Choice.{both}
use Rattle.field.specs.Runs.{Written, Apart, part, all_zero, zero_from}
use Rattle.field.proofs.Writing.{written_is}
use Rattle.field.proofs.Zeros.{Telling, zero-written, all-zero-same, all-zero-joined}
use Rattle.field.proofs.Parts.{splice, part_length, part-is, part_at, written-part, written_then, copied}

-- the bytes of a symbol, each with the byte of another at the same place
abbrev pub zipped : (ℕ → ℕ → ℕ) → List ℕ → ℕ → List ℕ → ℕ → ℕ
zipped g d at s k = g (get_or d (at + k) 0) (get_or s k 0)

-- n bytes at `at` of the part have room there
pub room : (ys new : List ℕ) (to t at n : ℕ) → to + t ≤ length ys → at + n ≤ t → n ≤ length new
    → at + length (take n new) ≤ length (take (to + t - to) (drop to ys))
room ys new to t at n h k l = omega (arith, length-take-le n new l, ap length (part-is ys to t), part_length ys to t h)

-- a chunk of which the first n bytes were written is as long as it was
pub chunk-length : (got old : List ℕ) (n : ℕ) → length got ≡ length (take n old) → n ≤ length old → length (got ++ drop n old) ≡ length old
chunk-length got old n e h = simp (length-append, length-drop) (omega (arith, e, length-take-le n old h))

-- a turn: n bytes were copied out of the slab, and worked into the symbol's part
module _ (g : ℕ → ℕ → ℕ) (xs ys old got zs : List ℕ) (t to from at n : ℕ) (w : Written (zipped g xs to (part xs from t)) xs ys to at)
    (a : Apart (length xs) t to from) (h : at + n ≤ t) where
  long : length ys ≡ length xs
  long = w.size

  -- a byte of the source has not changed
  source : (k : ℕ) → k < t → get_or ys (from + k) 0 ≡ get_or xs (from + k) 0
  source k b = ⊎_elim (λ u. w.high (from + k) (omega arith)) (λ u. w.low (from + k) (omega arith)) a.apart

  fits : from + at + n ≤ length ys
  fits = omega (arith, long, a.from_in)

  -- the chunk, whose first bytes are those that were copied
  abbrev new : List ℕ
  new = got ++ drop n old

  piece : (q : take n new ≡ take n (drop (from + at) ys)) (k : ℕ) → k < n → get_or (take n new) k 0 ≡ get_or (part xs from t) (at + k) 0
  piece q k b =
      let e : from + at + k ≡ from + (at + k) = omega arith in
      ap (λ (l : List ℕ). get_or l k 0) q ∙ part_at ys (from + at) n k b ∙ ap (λ (i : ℕ). get_or ys i 0) e ∙ source (at + k) (omega arith)
      ∙ sym (part_at xs from t (at + k) (omega arith))

  own : (k : ℕ) → k < n → get_or (take t (drop to ys)) (at + k) 0 ≡ get_or xs (to + (at + k)) 0
  own k b = part_at ys to t (at + k) (omega arith) ∙ w.high (to + (at + k)) (omega arith)

  pub turn : {zero last : Bool} → zero ≡ all_zero (zipped g xs to (part xs from t)) at
      → got ≡ take (from + at + n - (from + at)) (drop (from + at) ys)
      → Written (zipped g (take (to + t - to) (drop to ys)) at (take n new)) (take (to + t - to) (drop to ys)) zs at (length (take n new))
      → last ≡ zero_from zs at (length (take n new))
      → Telling (zipped g xs to (part xs from t)) xs (splice ys to (to + t - to) zs) to (at + n) (both zero last)
  turn {zero} {last} z e u r =
      let m : length (take (from + at + n - (from + at)) (drop (from + at) ys)) ≡ n = ap length (part-is ys (from + at) n) ∙ part_length ys (from + at) n fits in
      let q = copied ys old new (from + at) n fits (ap₂ ◌++◌ (e ∙ sym (take-length _)) (ap (λ (k : ℕ). drop k old) (sym m))) in
      let l : length (take n new) ≡ n = ap length q ∙ part_length ys (from + at) n fits in
      let v = written_is (rw (add-sub_cancel_left to t) at u) l in
      let f = zipped g xs to (part xs from t) in
      let d = zipped g (take t (drop to ys)) at (take n new) in
      let b : (k : ℕ) → k < n → d k ≡ f (at + k) = λ k b. ap₂ g (own k b) (piece q k b) in
      let s = r ∙ ap (λ (m : ℕ). zero_from zs at m) l ∙ sym (zero-written v) ∙ all-zero-same d (λ (k : ℕ). f (at + k)) n b in
      record {
        written = rw (add-sub_cancel_left to t) (written_then w (written-part ys to t v (omega (arith, long, a.to_in)) h) b);
        told = ap₂ both z s ∙ all-zero-joined f at n;
      }
