-- The sums that the builder adds are the rows of the system, one by one; so what it leaves is the constraint matrix.
-- Assumes nothing.
use mathlib.Core.Path.{◌≡◌, ap, ap₂, ◌∙◌}
use mathlib.Core.List.{List}
use Prim.Native.Nat.{ℕ, ◌+◌, ◌-◌, ◌/◌, ◌%◌, ◌^◌, ◌≤◌, ◌<◌}
use native.Mathlib.Nat.{mod-lt}
use native.Mathlib.Decide.{dec_lt}
use native.Mathlib.Omega.{arith}
use borrow.Author.Tests.{lt-ltb, le-ltb, eq-eqb, ne_eqb}
use lib.Bits.{xor_zero_r, xor_zero_l}
use lib.ListN.{length, get_or}
use Rattle.field.specs.Octet.{plus}
use Rattle.field.specs.Runs.{Written}
use Rattle.field.specs.Sum.{sum}
use Rattle.field.proofs.Sums.{sum-zero, sum-only}
use Rattle.headers.specs.Row.{p_of}
use Rattle.headers.specs.declared.row.Row.{Row}
use Rattle.stores.specs.Matrix.{words_of}
use Rattle.stores.proofs.Entries.{new-entry}
use Rattle.constraints.specs.Encoding.{enc_of}
use Rattle.constraints.specs.Ldpc.{one, two, three, ldpc, ldpc_of}
use Rattle.constraints.proofs.Closed.{other_row}
use Rattle.builders.specs.Adding.{Added, only}
use Rattle.builders.specs.Built.{system, shaped, Built}

-- no LDPC row past the S-th
rows-below : (s k : ℕ) → 0 < s → (one s k < s) × (two s k < s) × (three s k < s)
unfolding one two three
rows-below s k h = (mod-lt k h, mod-lt (k % s + (1 + k / s)) h, mod-lt ((k % s + (1 + k / s)) % s + (1 + k / s)) h)

ldpc-past : (s w p r c : ℕ) → 0 < s → s ≤ r → ldpc s w p r c ≡ 0
unfolding ldpc
ldpc-past s w p r c h l =
    ap₂ plus
    (ap₂ plus
    (sum-zero (w - s) (λ k b.
    let q = rows-below s k h in
    ap₂ plus (ap₂ plus (other_row r c (one s k) k (λ e. omega (arith, q.0))) (other_row r c (two s k) k (λ e. omega (arith, q.1)))) (other_row r c (three s k) k (λ e. omega (arith, q.2)))))
    (sum-zero s (λ k b. other_row r c k (w - s + k) (λ e. omega arith))))
    (sum-zero s (λ k b. ap₂ plus (other_row r c k (w + k % p) (λ e. omega arith)) (other_row r c k (w + (k + 1) % p) (λ e. omega arith))))

module _ (from : ℕ) (f : ℕ → ℕ → ℕ) (n i c : ℕ) where
  here : (k : ℕ) → i ≡ from + k → only (from + k) (f k) i c ≡ f k c
  here k e = rw (eq-eqb i (from + k) e)

  elsewhere : (k : ℕ) → (i ≡ from + k → ⊥) → only (from + k) (f k) i c ≡ 0
  elsewhere k e = rw (ne_eqb i (from + k) e)

  -- rows one after the other, from `from` on: none before, and then the i-th
  rows_before : i < from → sum n (λ k. only (from + k) (f k) i c) ≡ 0
  rows_before h = sum-zero n (λ k b. elsewhere k (λ e. omega arith))

  row_at : from ≤ i → i < from + n → sum n (λ k. only (from + k) (f k) i c) ≡ f (i - from) c
  row_at h l =
      sum-only n (λ k. only (from + k) (f k) i c) (i - from) (omega arith) (λ k b q. elsewhere k (λ e. q (omega arith)))
      ∙ here (i - from) (omega arith)

module _ (v isis : List ℕ) (r : Row) (zeros : ℕ) (s-low : 0 < r.s) where
  -- what the builder has added
  abbrev total : ℕ → ℕ → ℕ
  total i c = plus (ldpc_of r i c) (sum (length isis) (λ k. only (r.s + zeros + k) (enc_of v r (get_or isis k 0)) i c))

  system-is : (i c : ℕ) → i < r.s + zeros + length isis → total i c ≡ system v isis r zeros i c
  unfolding system
  system-is i c h = go (dec_lt i r.s) (dec_lt i (r.s + zeros))
    where
      go : Dec (i < r.s) → Dec (i < r.s + zeros) → total i c ≡ system v isis r zeros i c
      go (yes a) d =
          rw (lt-ltb i r.s a)
          (ap (plus (ldpc_of r i c)) (rows_before (r.s + zeros) (λ k. enc_of v r (get_or isis k 0)) (length isis) i c (omega arith)) ∙ xor_zero_r (ldpc_of r i c))
      go (no a) (yes d) =
          rw (le-ltb i r.s (omega arith), lt-ltb i (r.s + zeros) d)
          (ap₂ plus (ldpc-past r.s r.w (p_of r) i c s-low (omega arith)) (rows_before (r.s + zeros) (λ k. enc_of v r (get_or isis k 0)) (length isis) i c d))
      go (no a) (no d) =
          rw (le-ltb i r.s (omega arith), le-ltb i (r.s + zeros) (omega arith))
          (ap₂ plus (ldpc-past r.s r.w (p_of r) i c s-low (omega arith)) (row_at (r.s + zeros) (λ k. enc_of v r (get_or isis k 0)) (length isis) i c (omega arith) h)
          ∙ xor_zero_l (enc_of v r (get_or isis (i - (r.s + zeros)) 0) c))

  -- cleared, then the LDPC rows, then the rows of the ISIs
  pub built : {xs ys zs ws : List ℕ} → Written (λ k. 0) xs ys 0 (words_of (shaped r zeros (length isis)))
      → Added (ldpc_of r) ys zs (shaped r zeros (length isis))
      → Added (λ i c. sum (length isis) (λ k. only (r.s + zeros + k) (enc_of v r (get_or isis k 0)) i c)) zs ws (shaped r zeros (length isis))
      → ((k : ℕ) → get_or ws k 0 < 2 ^ 64)
      → Built v isis r zeros xs ws
  built {xs} {ys} {zs} {ws} u w t b =
      record {
        size = t.size ∙ w.size ∙ u.size;
        bits = λ i c h l.
            t.bits i c h l
            ∙ ap (λ (x : ℕ). plus x (sum (length isis) (λ k. only (r.s + zeros + k) (enc_of v r (get_or isis k 0)) i c)))
            (w.bits i c h l ∙ ap (λ (x : ℕ). plus x (ldpc_of r i c)) (new-entry (shaped r zeros (length isis)) xs ys u i c h l) ∙ xor_zero_l (ldpc_of r i c))
            ∙ system-is i c h;
        word = λ k h. b k;
        high = λ k h. t.high k h ∙ w.high k h ∙ u.high k (omega arith);
      }
