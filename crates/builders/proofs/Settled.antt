-- The builders' contract settles the answer and every word; and the bits past the width are 0.
-- Assumes nothing.
use mathlib.Core.Path.{◌≡◌, sym, ap, ◌∙◌, subst}
use mathlib.Core.List.{List}
use Prim.Native.Nat.{ℕ, ◌+◌, ◌-◌, ◌*◌, ◌/◌, ◌%◌, ◌^◌, ◌≤◌, ◌<◌}
use native.Mathlib.Nat.{mod-lt, div-eq_of_lt, div-add-mod', div-lt_iff_lt-mul, lt_of_lt_of_le, mul-zero, pos_of_ne-zero}
use native.Mathlib.Decide.{dec_lt}
use native.Mathlib.Omega.{arith}
use borrow.Author.Tests.{lt-ltb, le-ltb}
use lib.Arith.{digits_div, digits_mod}
use lib.ListN.{length, get_or}
use lib.Pow.{pow_mono}
use lib.Seq.{ext_get_or}
use Rattle.std.specs.Prelude.{Result}
use Rattle.field.specs.declared.refusal.Refusal.{Refusal}
use Rattle.field.proofs.Refusals.{settled}
use Rattle.headers.specs.Row.{Obeys, l_of, p_of}
use Rattle.headers.specs.declared.row.Row.{Row}
use Rattle.headers.proofs.Accepted.{l-is, ready}
use Rattle.headers.proofs.Tuples.{bounded}
use Rattle.stores.specs.Bits.{bit}
use Rattle.stores.specs.Matrix.{row_words, words_of}
use Rattle.stores.specs.declared.matrix.DenseBinaryMatrix.{DenseBinaryMatrix}
use Rattle.stores.proofs.Bits.{bits-ext}
use Rattle.constraints.proofs.Accepted.{crosses}
use Rattle.constraints.proofs.Closed.{clear-end}
use Rattle.constraints.proofs.Rows.{enc-off, places-below}
use Rattle.builders.specs.Built.{system, shaped, Built, Builds}

-- a word has no bit past its 64
high_bit : (w k : ℕ) → w < 2 ^ 64 → 64 ≤ k → bit w k ≡ 0
high_bit w k h l = ap (λ (x : ℕ). x % 2) (div-eq_of_lt (lt_of_lt_of_le h (pow_mono l)))

module _ {v isis : List ℕ} {r : Row} {zeros : ℕ} {xs ys zs : List ℕ} (u : Built v isis r zeros xs ys) (w : Built v isis r zeros xs zs) where
  abbrev n : ℕ
  n = row_words (l_of r)

  abbrev total : ℕ
  total = words_of (shaped r zeros (length isis))

  same_bit : (k j : ℕ) → k < total → j < 64 → bit (get_or ys k 0) j ≡ bit (get_or zs k 0) j
  same_bit k j h l =
      let p : 0 < n =
      pos_of_ne-zero (λ z. let none : total ≡ 0 = ap (λ (x : ℕ). (r.s + zeros + length isis) * x) z ∙ mul-zero (r.s + zeros + length isis) in omega arith) in
      let c : ℕ = k % n * 64 + j in
      let o : c / 64 ≡ k % n = digits_div (k % n) l in
      let q : c % 64 ≡ j = digits_mod (k % n) l in
      let i : k / n < r.s + zeros + length isis = (div-lt_iff_lt-mul {k = n} {x = k} {y = r.s + zeros + length isis} p).1 h in
      let m : c / 64 < n = subst (λ (x : ℕ). x < n) (sym o) (mod-lt k p) in
      let e : k / n * n + c / 64 ≡ k = ap (λ (x : ℕ). k / n * n + x) o ∙ div-add-mod' k n in
      let b : bit (get_or ys (k / n * n + c / 64) 0) (c % 64) ≡ bit (get_or zs (k / n * n + c / 64) 0) (c % 64) = u.bits (k / n) c i m ∙ sym (w.bits (k / n) c i m) in
      subst (λ (x : ℕ). bit (get_or ys k 0) x ≡ bit (get_or zs k 0) x) q (subst (λ (x : ℕ). bit (get_or ys x 0) (c % 64) ≡ bit (get_or zs x 0) (c % 64)) e b)

  pub built-once : ys ≡ zs
  built-once = ext_get_or 0 ys zs (u.size ∙ sym w.size) (λ k b. go k (dec_lt k total))
    where
      each : (k j : ℕ) → k < total → Dec (j < 64) → bit (get_or ys k 0) j ≡ bit (get_or zs k 0) j
      each k j h (yes l) = same_bit k j h l
      each k j h (no l) = high_bit (get_or ys k 0) j (u.word k h) (omega arith) ∙ sym (high_bit (get_or zs k 0) j (w.word k h) (omega arith))

      go : (k : ℕ) → Dec (k < total) → get_or ys k 0 ≡ get_or zs k 0
      go k (yes h) = bits-ext (get_or ys k 0) (get_or zs k 0) (λ j. each k j h (dec_lt j 64))
      go k (no h) = u.high k (omega arith) ∙ sym (w.high k (omega arith))

-- generate_constraint_matrix, generate_constraint_matrix_no_hdpc
pub builds-only : {v isis : List ℕ} {r : Row} {zeros least : ℕ} {xs ys zs : List ℕ} {a b : Result DenseBinaryMatrix Refusal}
    → Builds v isis r zeros least xs ys a → Builds v isis r zeros least xs zs b → (a ≡ b) × (ys ≡ zs)
builds-only {v} {isis} {r} {zeros} {least} {xs} {ys} {zs} {a} {b} s t =
    settled _ xs (Built v isis r zeros xs) (λ p q. built-once) a b ys zs (s.answer, s.memory) (t.answer, t.memory)

-- the bits past the width
pub stray-zero : {r : Row} → Obeys r → (v : List ℕ) → length v ≡ 1024 → (isis : List ℕ) (zeros i c : ℕ) → l_of r ≤ c → system v isis r zeros i c ≡ 0
unfolding system
stray-zero {r} o v e isis zeros i c h = go (dec_lt i r.s) (dec_lt i (r.s + zeros))
  where
    p : 0 < p_of r
    p = omega (arith, o.p-low)

    go : Dec (i < r.s) → Dec (i < r.s + zeros) → system v isis r zeros i c ≡ 0
    go (yes a) d =
        rw (lt-ltb i r.s a)
        (clear-end (crosses o) i c a (omega (arith, l-is o)) (λ z. omega (arith, l-is o, mod-lt i {m = p_of r} p)) (λ z. omega (arith, l-is o, mod-lt (i + 1) {m = p_of r} p)))
    go (no a) (yes d) = rw (le-ltb i r.s (omega arith), lt-ltb i (r.s + zeros) d)
    go (no a) (no d) =
        let x = get_or isis (i - (r.s + zeros)) 0 in
        rw (le-ltb i r.s (omega arith), le-ltb i (r.s + zeros) (omega arith))
        (enc-off v r x c (λ k b z. omega (arith, places-below o (bounded (ready o e) x) k b)))
