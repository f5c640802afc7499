-- The first rows of a store, and one more behind them out of a buffer of its own.
-- Assumes nothing.
use mathlib.Core.Path.{◌≡◌, sym, ap, ◌∙◌}
use mathlib.Core.List.{List, ◌++◌}
use Prim.Native.Nat.{ℕ, ◌+◌, ◌-◌, ◌*◌, ◌≤◌, ◌<◌}
use native.Mathlib.Nat.{zero-add, mul-le-mul_right}
use native.Mathlib.Decide.{dec_lt}
use native.Mathlib.Omega.{arith}
use lib.ListN.{length, get_or, take, length-append, get_or-append}
use lib.Seq.{length-take-le, get_or-append-add, get_or-take}
use Rattle.field.specs.Runs.{Written}
use Rattle.linear.specs.Bytes.{Bytes, cell}
use Rattle.linear.specs.Rows.{behind}

module _ (w n : ℕ) (a x : List ℕ) (fits : n * w ≤ length a) where
  front : length (take (n * w) a) ≡ n * w
  front = length-take-le (n * w) a fits

  -- a place of the rows
  pub behind-old : (k : ℕ) → k < n * w → get_or (behind w n a x) k 0 ≡ get_or a k 0
  unfolding behind
  behind-old k h = get_or-append (take (n * w) a) x 0 k (omega (arith, front)) ∙ get_or-take (n * w) a k 0 h

  -- a place of what comes after
  pub behind-new : (c : ℕ) → get_or (behind w n a x) (n * w + c) 0 ≡ get_or x c 0
  unfolding behind
  behind-new c = ap (λ (m : ℕ). get_or (take (n * w) a ++ x) (m + c) 0) (sym front) ∙ get_or-append-add (take (n * w) a) x c 0

  pub behind-length : length (behind w n a x) ≡ n * w + length x
  unfolding behind
  behind-length = length-append (take (n * w) a) x ∙ ap (λ (m : ℕ). m + length x) front

  pub behind-row : (i : ℕ) → i < n → (c : ℕ) → c < w → cell w (behind w n a x) i c ≡ cell w a i c
  behind-row i h c l = behind-old (i * w + c) (omega (arith, mul-le-mul_right w h))

  pub behind-bytes : Bytes a → Bytes x → Bytes (behind w n a x)
  behind-bytes ba bx k = go (dec_lt k (n * w))
    where
      go : Dec (k < n * w) → get_or (behind w n a x) k 0 < 256
      go (yes h) = rw (behind-old k h) (ba k)
      go (no h) = let e : n * w + (k - n * w) ≡ k = omega arith in rw (← e, behind-new (k - n * w)) (bx (k - n * w))

-- what is written in the buffer is written in that row
pub behind-written : {f g : ℕ → ℕ} {x x₁ : List ℕ} (w n : ℕ) (a : List ℕ) → n * w ≤ length a → Written f x x₁ 0 w → ((c : ℕ) → c < w → f c ≡ g c)
    → Written g (behind w n a x) (behind w n a x₁) (n * w) w
behind-written {f} {g} {x} {x₁} w n a fits s e = record {
  size = behind-length w n a x₁ fits ∙ ap (λ (m : ℕ). n * w + m) s.size ∙ sym (behind-length w n a x fits);
  part = λ c h. behind-new w n a x₁ fits c ∙ ap (λ (m : ℕ). get_or x₁ m 0) (sym (zero-add c)) ∙ s.part c h ∙ e c h;
  low = λ k h. behind-old w n a x₁ fits k h ∙ sym (behind-old w n a x fits k h);
  high = λ k h. past k h;
}
  where
    past : (k : ℕ) → n * w + w ≤ k → get_or (behind w n a x₁) k 0 ≡ get_or (behind w n a x) k 0
    past k h =
        let q : n * w + (k - n * w) ≡ k = omega arith in
        ap (λ (m : ℕ). get_or (behind w n a x₁) m 0) (sym q) ∙ behind-new w n a x₁ fits (k - n * w) ∙ s.high (k - n * w) (omega arith)
        ∙ sym (behind-new w n a x fits (k - n * w)) ∙ ap (λ (m : ℕ). get_or (behind w n a x) m 0) q
