-- Steps of one length modulo a prime: no two of them end at the same place, and each place is reached. By inverses.
-- Assumes nothing.
use mathlib.Core.Path.{◌≡◌, sym, ap, ◌∙◌}
use Prim.Native.Nat.{ℕ, zero, suc, ◌+◌, ◌-◌, ◌*◌, ◌/◌, ◌%◌, ◌<◌, ◌≤◌}
use native.Mathlib.Nat.{mod-lt, mod-eq_of_lt, mod-add-mod, add-mod-mod, add-mod_right, div-add-mod', mul-mod_left, mul-add-mod_self_right, mul-add, add-mul, mul_assoc, mul_comm, mul_left_comm, mul_right_comm, mul-one, mul-zero, zero-mod, suc-mul, mul-suc, pos_of_ne-zero}
use native.Mathlib.Decide.{dec_lt}
use native.Mathlib.Omega.{arith}
use Rattle.headers.specs.Prime.{Prime}

-- a factor may be read modulo p
pub mul-mod : (c m p : ℕ) → (c * (m % p)) % p ≡ (c * m) % p
mul-mod c m p =
    sym (ap (λ (x : ℕ). (c * x) % p) (sym (div-add-mod' m p))
    ∙ ap (λ (x : ℕ). x % p) (mul-add c (m / p * p) (m % p) ∙ ap (λ (x : ℕ). x + c * (m % p)) (sym (mul_assoc c (m / p) p)))
    ∙ mul-add-mod_self_right (c * (m / p)) p (c * (m % p)))

-- what is added and changes nothing is 0 modulo p
pub added-zero : (x y p : ℕ) → x % p ≡ (x + y) % p → y % p ≡ 0
added-zero x y p e =
    let s : (x % p + y) / p * p + (x % p + y) % p ≡ x % p + y = div-add-mod' (x % p + y) p in
    let q : y ≡ (x % p + y) / p * p = omega (arith, s, e, mod-add-mod x p y) in
    ap (λ (z : ℕ). z % p) q ∙ mul-mod_left ((x % p + y) / p) p

-- (p - r) (p - 1) is r modulo p
opposite : (t r p : ℕ) → 0 < t → t + r ≡ p → t * (p - 1) ≡ (t - 1) * p + r
opposite zero r p h e = absurd (omega arith)
opposite (suc t) r zero h e = absurd (omega arith)
opposite (suc t) r (suc p) h e =
    let e1 : suc p - 1 ≡ p = omega arith in
    let e2 : suc t - 1 ≡ t = omega arith in
    rw (e1, e2) (omega (arith, suc-mul t p, mul-suc t p))

module _ {p : ℕ} (prime : Prime p) where
  -- Euclid's algorithm: with r the rest of p by a, and y an inverse of r
  turn : (a : ℕ) → 2 ≤ a → a < p → (y : ℕ) → (y * (p % a)) % p ≡ 1 → (y * (p / a * (p - 1)) * a) % p ≡ 1
  turn a h b y e =
      let s : p / a * a + p % a ≡ p = div-add-mod' p a in
      let t : 0 < p / a * a = omega (arith, mod-lt p {m = a} (omega arith)) in
      ap (λ (x : ℕ). x % p)
      (mul_assoc y (p / a * (p - 1)) a ∙ ap (λ (x : ℕ). y * x) (mul_right_comm (p / a) (p - 1) a ∙ opposite (p / a * a) (p % a) p t s)
      ∙ mul-add y ((p / a * a - 1) * p) (p % a) ∙ ap (λ (x : ℕ). x + y * (p % a)) (sym (mul_assoc y (p / a * a - 1) p)))
      ∙ mul-add-mod_self_right (y * (p / a * a - 1)) p (y * (p % a)) ∙ e

  inverse-below : (n a : ℕ) → a < n → 0 < a → a < p → (x : ℕ) × ((x * a) % p ≡ 1)
  inverse-below zero a l h b = absurd (omega arith)
  inverse-below (suc n) a l h b = go (inverse-below n) (dec_lt a 2)
    where
      go : ((r : ℕ) → r < n → 0 < r → r < p → (x : ℕ) × ((x * r) % p ≡ 1)) → Dec (a < 2) → (x : ℕ) × ((x * a) % p ≡ 1)
      go ih (yes s) =
          let e : a ≡ 1 = omega arith in
          (1, ap (λ (x : ℕ). (1 * x) % p) e ∙ mod-eq_of_lt {n = 1} {m = p} (omega (arith, prime.two)))
      go ih (no s) =
          let r : p % a < a = mod-lt p (omega arith) in
          let y : (x : ℕ) × ((x * (p % a)) % p ≡ 1) = ih (p % a) (omega arith) (pos_of_ne-zero (prime.alone a b (omega arith))) (omega arith) in
          (y.0 * (p / a * (p - 1)), turn a (omega arith) b y.0 y.1)

  pub inverse : (a : ℕ) → 0 < a → a < p → (x : ℕ) × ((x * a) % p ≡ 1)
  inverse a = inverse-below (suc a) a (omega arith)

  -- n times a and an inverse of a
  there_and_back : (n a x : ℕ) → (x * a) % p ≡ 1 → (n * (x * a)) % p ≡ n % p
  there_and_back n a x e = sym (mul-mod n (x * a) p) ∙ ap (λ (z : ℕ). (n * z) % p) e ∙ ap (λ (z : ℕ). z % p) (mul-one n)

  pub cancel : (n a : ℕ) → 0 < a → a < p → (n * a) % p ≡ 0 → n % p ≡ 0
  cancel n a h b e =
      let i : (x : ℕ) × ((x * a) % p ≡ 1) = inverse a h b in
      sym (there_and_back n a i.0 i.1) ∙ ap (λ (z : ℕ). z % p) (mul_left_comm n i.0 a)
      ∙ sym (mul-mod i.0 (n * a) p) ∙ ap (λ (z : ℕ). (i.0 * z) % p) e ∙ ap (λ (z : ℕ). z % p) (mul-zero i.0) ∙ zero-mod p

  -- two steps that are less than p apart do not end at one place
  pub apart : (a b i j : ℕ) → 0 < a → a < p → i < j → j < i + p → (b + i * a) % p ≡ (b + j * a) % p → ⊥
  apart a b i j h l o q e =
      let t : i + (j - i) ≡ j = omega arith in
      let s : b + j * a ≡ b + i * a + (j - i) * a = omega (arith, ap (λ (x : ℕ). x * a) t, add-mul i (j - i) a) in
      let z : (j - i) % p ≡ 0 = cancel (j - i) a h l (added-zero (b + i * a) ((j - i) * a) p (e ∙ ap (λ (x : ℕ). x % p) s)) in
      omega (arith, z, mod-eq_of_lt {n = j - i} {m = p} (omega arith))

  -- each place is reached in less than p steps
  pub reached : (a b y : ℕ) → 0 < a → a < p → b < p → y < p → (k : ℕ) × (k < p) × ((b + k * a) % p ≡ y)
  reached a b y h l hb hy =
      let i : (x : ℕ) × ((x * a) % p ≡ 1) = inverse a h l in
      let n : ℕ = y + (p - b) in
      let s : b + n ≡ y + p = omega arith in (
        n * i.0 % p,
        mod-lt (n * i.0) (omega arith),
        sym (add-mod-mod b (n * i.0 % p * a) p)
            ∙ ap (λ (z : ℕ). (b + z) % p)
            (ap (λ (z : ℕ). z % p) (mul_comm (n * i.0 % p) a) ∙ mul-mod a (n * i.0) p
            ∙ ap (λ (z : ℕ). z % p) (mul_comm a (n * i.0) ∙ mul_assoc n i.0 a) ∙ there_and_back n a i.0 i.1)
            ∙ add-mod-mod b n p ∙ ap (λ (z : ℕ). z % p) s ∙ add-mod_right y p ∙ mod-eq_of_lt hy,
      )
