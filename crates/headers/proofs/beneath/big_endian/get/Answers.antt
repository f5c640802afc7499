-- `headers::beneath::big_endian::get` meets its contract: zeros before the bytes leave their number as it is.
-- Assumes nothing.
use Rattle.std.proofs.Common.{◌≡◌, ℕ, zero, suc, ◌+◌, ◌-◌, ◌*◌, ◌^◌, ◌<◌, List, length, get_or, take, drop, sym, refl, ap, ◌∙◌, subst, zero-add, arith, length-take-le, length-drop, get_or-take, get_or-drop}
use Rattle.std.proofs.lemmas.List.{get_or-replicate}
use native.Mathlib.Numerals.{unary_clauses}
use Rattle.headers.specs.Bytes.{number}
use Rattle.headers.proofs.Bytes.{number_lt}
use Rattle.headers.proofs.beneath.big_endian.get.Goals as goal

zeros-number : (s : List ℕ) (m : ℕ) → ((k : ℕ) → k < m → get_or s k 0 ≡ 0) → number s 0 m ≡ 0
zeros-number s zero z = refl
zeros-number s (suc m) z = omega (arith, zeros-number s m (λ k h. z k (omega arith)), z m (omega arith))

module _ (s t : List ℕ) (at m : ℕ) (z : (k : ℕ) → k < m → get_or s k 0 ≡ 0) where
  moved-number : (n : ℕ) → ((k : ℕ) → k < n → get_or s (m + k) 0 ≡ get_or t (at + k) 0) → number s 0 (m + n) ≡ number t at n
  moved-number zero e = simp unary_clauses (zeros-number s m z)
  moved-number (suc n) e =
      let here : get_or s (0 + (m + n)) 0 ≡ get_or t (at + n) 0 = ap (λ (i : ℕ). get_or s i 0) (zero-add (m + n)) ∙ e n (omega arith) in
      simp unary_clauses (omega (arith, moved-number n (λ k h. e k (omega arith)), here))

pub returns : goal.returns
returns c =
    let n = c.args.n in
    let at = c.args.at in
    let s = c.copy.new.store in
    let b = c.args.bytes.now in
    let size : length (take (at + n - at) (drop at b)) ≡ n = omega (arith, length-take-le (at + n - at) (drop at b) (omega (arith, length-drop at b))) in
    let same : number s 0 (8 - n + n) ≡ number b at n =
    moved-number s b at (8 - n) (λ k h. c.copy.ensures.low k h ∙ get_or-replicate 8 k 0 0 (omega arith)) n
    (λ k h. c.copy.ensures.part k (omega (arith, size)) ∙ get_or-take (at + n - at) (drop at b) k 0 (omega arith) ∙ get_or-drop at b k 0) in
    let e : 8 - n + n ≡ 8 = omega arith in
    let whole : number s 0 8 ≡ number b at n = subst (λ (k : ℕ). number s 0 k ≡ number b at n) e same in
    let r : c.from_be_bytes.result ≡ number b at n = omega (arith, c.from_be_bytes.ensures, whole) in
    (r, subst (λ (x : ℕ). x < 2 ^ (8 * n)) (sym r) (number_lt b at n (λ k. (c.type_inv.bytes k).fits)))
