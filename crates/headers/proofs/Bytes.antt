-- Numbers in bytes: how many, how large, which byte stands where, and that neither way loses anything. Bytes laid into a store.
-- Assumes nothing.
use Rattle.std.proofs.Common.{◌≡◌, ℕ, zero, suc, ◌+◌, ◌-◌, ◌*◌, ◌/◌, ◌%◌, ◌^◌, ◌<◌, ◌≤◌, List, [], ◌∷◌, ◌++◌, length, get_or, take, drop, sym, refl, ap, ◌∙◌, subst, ap₂, zero-add, div-one, add-one, arith, length-append, length-drop, length-take-le, get_or-drop, get_or-take, take-suc, drop-drop, get_or-append-add, ext_get_or, take-add, pow_mono, pow-add, shr-shr}
use native.Mathlib.Decide.{dec_lt}
use lib.Arith.{digits_div, digits_mod}
use lib.ListN.{get_or-append}
use Rattle.headers.specs.Bytes.{Laid, in_bytes, number}

pub in_bytes-length : (n x : ℕ) → length (in_bytes n x) ≡ n
in_bytes-length zero x = refl
in_bytes-length (suc n) x =
    length-append (in_bytes n (x / 256)) (x % 256 ∷ []) ∙ ap (λ (k : ℕ). k + 1) (in_bytes-length n (x / 256)) ∙ add-one n

-- the byte at place i
pub in_bytes-at : (n x i : ℕ) → i < n → get_or (in_bytes n x) i 0 ≡ x / 2 ^ (8 * (n - 1 - i)) % 256
in_bytes-at zero x i h = absurd (omega arith)
in_bytes-at (suc n) x i h = go (dec_lt i n) (in_bytes-at n (x / 256) i)
  where
    go : Dec (i < n) → (i < n → get_or (in_bytes n (x / 256)) i 0 ≡ x / 256 / 2 ^ (8 * (n - 1 - i)) % 256)
        → get_or (in_bytes (suc n) x) i 0 ≡ x / 2 ^ (8 * (suc n - 1 - i)) % 256
    go (yes l) r =
        get_or-append (in_bytes n (x / 256)) (x % 256 ∷ []) 0 i (omega (arith, in_bytes-length n (x / 256)))
        ∙ r l ∙ ap (λ (y : ℕ). y % 256) (shr-shr x 8 (8 * (n - 1 - i)))
        ∙ ap (λ (k : ℕ). x / 2 ^ k % 256) (omega arith)
    go (no l) r =
        let e : i ≡ length (in_bytes n (x / 256)) + 0 = omega (arith, in_bytes-length n (x / 256)) in
        let z : 0 ≡ 8 * (suc n - 1 - i) = omega arith in
        ap (λ (k : ℕ). get_or (in_bytes (suc n) x) k 0) e
        ∙ get_or-append-add (in_bytes n (x / 256)) (x % 256 ∷ []) 0 0
        ∙ ap (λ (y : ℕ). y % 256) (sym (div-one x))
        ∙ ap (λ (k : ℕ). x / 2 ^ k % 256) z

-- one byte more
pub number-lt-more : (i x b : ℕ) → x < 2 ^ (8 * i) → b < 256 → x * 256 + b < 2 ^ (8 * (i + 1))
number-lt-more i x b h l =
    let e : 8 * (i + 1) ≡ 8 * i + 8 = omega arith in
    omega (arith, ap (λ (k : ℕ). 2 ^ k) e ∙ pow-add 2 (8 * i) 8)

-- room for one byte more in 64 bits
pub number-lt-56 : (i x : ℕ) → x < 2 ^ (8 * i) → i < 8 → x < 2 ^ 56
number-lt-56 i x h l = let m : 8 * i ≤ 56 = omega arith in omega (arith, pow_mono m)

-- one run laid after another
module _ (ws bs : List ℕ) {xs ys zs : List ℕ} {at next : ℕ} where
  pub laid-append : Laid ws xs ys at → next ≡ at + length ws → Laid bs ys zs next → Laid (ws ++ bs) xs zs at
  laid-append u e w =
      record {
        size = w.size ∙ u.size;
        part = λ k h. here k (dec_lt k (length ws)) (omega (arith, length-append ws bs));
        low = λ k h. w.low k (omega arith) ∙ u.low k h;
        high = λ k h. w.high k (omega (arith, length-append ws bs)) ∙ u.high k (omega (arith, length-append ws bs));
      }
    where
      here : (k : ℕ) → Dec (k < length ws) → k < length ws + length bs → get_or zs (at + k) 0 ≡ get_or (ws ++ bs) k 0
      here k (yes l) h = w.low (at + k) (omega arith) ∙ u.part k l ∙ sym (get_or-append ws bs 0 k l)
      here k (no l) h =
          let i : at + k ≡ next + (k - length ws) = omega arith in
          let j : length ws + (k - length ws) ≡ k = omega arith in
          ap (λ (x : ℕ). get_or zs x 0) i ∙ w.part (k - length ws) (omega arith)
          ∙ sym (get_or-append-add ws bs (k - length ws) 0) ∙ ap (λ (x : ℕ). get_or (ws ++ bs) x 0) j

-- of a store: every byte is below 256
abbrev pub Bytes : List ℕ → Type 0
Bytes s = (k : ℕ) → get_or s k 0 < 256

-- writing the number that was read gives the bytes back
pub in_bytes-number : (s : List ℕ) (at n : ℕ) → Bytes s → at + n ≤ length s → in_bytes n (number s at n) ≡ take n (drop at s)
in_bytes-number s at zero b h = refl
in_bytes-number s at (suc n) b h =
    let l : get_or s (at + n) 0 < 256 = b (at + n) in
    ap₂ (λ (x y : ℕ). in_bytes n x ++ (y ∷ [])) (digits_div (number s at n) l) (digits_mod (number s at n) l)
    ∙ ap₂ (λ (x : List ℕ) (y : ℕ). x ++ (y ∷ [])) (in_bytes-number s at n b (omega arith)) (sym (get_or-drop at s n 0))
    ∙ sym (take-suc (drop at s) n 0 (omega (arith, length-drop at s)))

pub number_lt : (s : List ℕ) (at n : ℕ) → Bytes s → number s at n < 2 ^ (8 * n)
number_lt s at zero b = omega arith
number_lt s at (suc n) b =
    let m : n + 1 ≡ suc n = add-one n in
    subst (λ (k : ℕ). number s at n * 256 + get_or s (at + n) 0 < 2 ^ (8 * k)) m
    (number-lt-more n (number s at n) (get_or s (at + n) 0) (number_lt s at n b) (b (at + n)))

-- and with the bytes that follow
pub in_bytes-next : (s : List ℕ) (at n m : ℕ) {rest : List ℕ} → Bytes s → at + n ≤ length s → rest ≡ take m (drop (at + n) s)
    → in_bytes n (number s at n) ++ rest ≡ take (n + m) (drop at s)
in_bytes-next s at n m b h e =
    ap₂ (λ (x y : List ℕ). x ++ y) (in_bytes-number s at n b h) (e ∙ ap (take m) (sym (drop-drop n at s)))
    ∙ sym (take-add n m (drop at s))

-- what was laid at the front of a store is its front
pub laid-front : (bs : List ℕ) {xs ys : List ℕ} → Laid bs xs ys 0 → length bs ≤ length xs → take (length bs) ys ≡ bs
laid-front bs {xs} {ys} w h =
    let l : length (take (length bs) ys) ≡ length bs = length-take-le (length bs) ys (omega (arith, w.size)) in
    ext_get_or 0 (take (length bs) ys) bs l
    (λ k b. get_or-take (length bs) ys k 0 (omega arith) ∙ ap (λ (x : ℕ). get_or ys x 0) (sym (zero-add k)) ∙ w.part k (omega arith))
