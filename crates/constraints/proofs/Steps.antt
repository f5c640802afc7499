-- Steps of a modulo the prime p1 until a place below p: how many they are, and that they are the fewest.
-- Assumes nothing.
use mathlib.Core.Path.{◌≡◌, refl, sym, ap, ◌∙◌, subst}
use Prim.Native.Nat.{ℕ, zero, suc, ◌+◌, ◌-◌, ◌*◌, ◌%◌, ◌<◌, ◌≤◌}
use native.Mathlib.Nat.{mod-lt, mod-eq_of_lt, mod-add-mod, suc-mul, zero-mul, add-zero, add-mul}
use native.Mathlib.Decide.{dec_lt}
use native.Mathlib.Omega.{arith}
use borrow.Author.Tests.{lt-ltb, le-ltb}
use lib.Dec.{ltb}
use Rattle.field.specs.Choice.{pick}
use Rattle.headers.specs.Prime.{Prime}
use Rattle.constraints.proofs.Modular.{apart, reached}
use Rattle.constraints.specs.Walk.{land}

-- a step, and then k
pub one_more : (m a b k : ℕ) → ((b + a) % m + k * a) % m ≡ (b + suc k * a) % m
one_more m a b k =
    let e : b + a + k * a ≡ b + suc k * a = omega (arith, suc-mul k a) in
    mod-add-mod (b + a) m (k * a) ∙ ap (λ (x : ℕ). x % m) e

-- i steps, and then k
pub and_then : (m a b i k : ℕ) → ((b + i * a) % m + k * a) % m ≡ (b + (i + k) * a) % m
and_then m a b i k =
    let e : b + i * a + k * a ≡ b + (i + k) * a = omega (arith, add-mul i k a) in
    mod-add-mod (b + i * a) m (k * a) ∙ ap (λ (x : ℕ). x % m) e

pub one_on : (m a b i : ℕ) → ((b + i * a) % m + a) % m ≡ (b + (i + 1) * a) % m
one_on m a b i =
    let e : b + i * a + a ≡ b + (i + 1) * a = omega (arith, add-mul i 1 a) in
    mod-add-mod (b + i * a) m a ∙ ap (λ (x : ℕ). x % m) e

pub from_start : {m b : ℕ} (a : ℕ) → b < m → b ≡ (b + 0 * a) % m
from_start {m} {b} a h = sym (ap (λ (x : ℕ). (b + x) % m) (zero-mul a) ∙ ap (λ (x : ℕ). x % m) (add-zero b) ∙ mod-eq_of_lt h)

unmoved : (p p1 a b : ℕ) → land p p1 a 0 b ≡ b
unfolding land
unmoved p p1 a b = refl

module _ (p p1 a : ℕ) where
  abbrev pub next : ℕ → ℕ
  next b = (b + a) % p1

  unfoldable pub skips : ℕ → ℕ → ℕ
  skips zero b = 0
  skips (suc n) b = pick (ltb b p) 0 (suc (skips n (next b)))

  -- what is below p stays; what is not goes on
  pub stays : (n b : ℕ) → b < p → skips n b ≡ 0
  unfolding skips
  stays zero b h = refl
  stays (suc n) b h = rw (lt-ltb b p h)

  pub goes : (n b : ℕ) → p ≤ b → skips (suc n) b ≡ suc (skips n (next b))
  unfolding skips
  goes n b h = rw (le-ltb b p h)

  pub land-stays : (n b : ℕ) → b < p → land p p1 a n b ≡ b
  unfolding land
  land-stays zero b h = refl
  land-stays (suc n) b h = rw (lt-ltb b p h)

  pub land-goes : (n b : ℕ) → p ≤ b → land p p1 a (suc n) b ≡ land p p1 a n (next b)
  unfolding land
  land-goes n b h = rw (le-ltb b p h)

  -- the place is that many steps away
  pub lands : (n b : ℕ) → b < p1 → land p p1 a n b ≡ (b + skips n b * a) % p1
  unfolding land skips
  lands zero b l = from_start a l
  lands (suc n) b l = go (lands n (next b) (mod-lt (b + a) (omega arith))) (dec_lt b p)
    where
      go : land p p1 a n (next b) ≡ (next b + skips n (next b) * a) % p1 → Dec (b < p) → land p p1 a (suc n) b ≡ (b + skips (suc n) b * a) % p1
      go ih (yes h) =
          rw (stays (suc n) b h, zero-mul a) (land-stays (suc n) b h ∙ sym (ap (λ (x : ℕ). x % p1) (add-zero b) ∙ mod-eq_of_lt l))
      go ih (no h) =
          rw (goes n b (omega arith)) (land-goes n b (omega arith) ∙ ih ∙ one_more p1 a b (skips n (next b)))

  -- no fewer will do
  pub fewest : (n b k : ℕ) → b < p1 → (b + k * a) % p1 < p → skips n b ≤ k
  unfolding skips
  fewest zero b k l h = omega arith
  fewest (suc n) b k l h = go k h (fewest n (next b)) (dec_lt b p)
    where
      go : (k : ℕ) → (b + k * a) % p1 < p → ((k : ℕ) → next b < p1 → (next b + k * a) % p1 < p → skips n (next b) ≤ k) → Dec (b < p) → skips (suc n) b ≤ k
      go k h ih (yes s) = omega (arith, stays (suc n) b s)
      go zero h ih (no s) =
          absurd (omega (arith, from_start a l))
      go (suc k) h ih (no s) =
          omega (arith, goes n b (omega arith), ih k (mod-lt (b + a) (omega arith)) (subst (λ (x : ℕ). x < p) (sym (one_more p1 a b k)) h))

  -- with steps enough the place is below p
  pub found : (n b k : ℕ) → b < p1 → k < n → (b + k * a) % p1 < p → land p p1 a n b < p
  found zero b k l s h = absurd (omega arith)
  found (suc n) b k l s h = go k s h (found n (next b)) (dec_lt b p)
    where
      go : (k : ℕ) → k < suc n → (b + k * a) % p1 < p → ((k : ℕ) → next b < p1 → k < n → (next b + k * a) % p1 < p → land p p1 a n (next b) < p)
          → Dec (b < p) → land p p1 a (suc n) b < p
      go k s h ih (yes u) = omega (arith, land-stays (suc n) b u)
      go zero s h ih (no u) =
          absurd (omega (arith, from_start a l))
      go (suc k) s h ih (no u) =
          omega (
            arith,
            land-goes n b (omega arith),
            ih k (mod-lt (b + a) (omega arith)) (omega arith) (subst (λ (x : ℕ). x < p) (sym (one_more p1 a b k)) h),
          )

  -- more steps than enough change nothing
  pub settled : (n b : ℕ) → land p p1 a n b < p → (land p p1 a (suc n) b ≡ land p p1 a n b) × (skips (suc n) b ≡ skips n b)
  settled zero b h =
      let l : b < p = subst (λ (x : ℕ). x < p) (unmoved p p1 a b) h in
      (land-stays 1 b l ∙ sym (land-stays 0 b l), stays 1 b l ∙ sym (stays 0 b l))
  settled (suc n) b h = go (settled n (next b)) (dec_lt b p)
    where
      go : (land p p1 a n (next b) < p → (land p p1 a (suc n) (next b) ≡ land p p1 a n (next b)) × (skips (suc n) (next b) ≡ skips n (next b)))
          → Dec (b < p) → (land p p1 a (suc (suc n)) b ≡ land p p1 a (suc n) b) × (skips (suc (suc n)) b ≡ skips (suc n) b)
      go ih (yes l) = (land-stays (suc (suc n)) b l ∙ sym (land-stays (suc n) b l), stays (suc (suc n)) b l ∙ sym (stays (suc n) b l))
      go ih (no l) =
          let g : land p p1 a (suc n) b ≡ land p p1 a n (next b) = land-goes n b (omega arith) in
          let q = ih (subst (λ (x : ℕ). x < p) g h) in (
            land-goes (suc n) b (omega arith) ∙ q.0 ∙ sym g,
            goes (suc n) b (omega arith) ∙ ap suc q.1 ∙ sym (goes n b (omega arith)),
          )

-- ---- p1 is prime

module _ {p p1 a : ℕ} (prime : Prime p1) (p-low : 0 < p) (p-p1 : p ≤ p1) (a-low : 0 < a) (a-high : a < p1) where
  -- p1 steps are enough
  pub land-lt : (b : ℕ) → b < p1 → land p p1 a p1 b < p
  land-lt b l =
      let k = reached prime a b 0 a-low a-high l (omega arith) in
      found p p1 a p1 b k.0 l k.1 (omega (arith, k.2))

  -- a turn of the loop: the same place, one step nearer
  pub land-turn : (b : ℕ) → b < p1 → p ≤ b → land p p1 a p1 (next p p1 a b) ≡ land p p1 a p1 b
  land-turn b l h = sym (sym (settled p p1 a p1 b (land-lt b l)).0 ∙ land-goes p p1 a p1 b h)

  pub skips-turn : (b : ℕ) → b < p1 → p ≤ b → skips p p1 a p1 b ≡ suc (skips p p1 a p1 (next p p1 a b))
  skips-turn b l h = sym (settled p p1 a p1 b (land-lt b l)).1 ∙ goes p p1 a p1 b h

  -- where b, and a step on, land: m steps away
  far : ℕ → ℕ
  far x = suc (skips p p1 a p1 (next p p1 a x))

  abbrev pub hop : ℕ → ℕ
  hop x = land p p1 a p1 (next p p1 a x)

  hop-far : (x : ℕ) → x < p1 → hop x ≡ (x + far x * a) % p1
  unfolding far
  hop-far x l = lands p p1 a p1 (next p p1 a x) (mod-lt (x + a) (omega arith)) ∙ one_more p1 a x (skips p p1 a p1 (next p p1 a x))

  -- another place below p is not nearer
  near : (x k : ℕ) → x < p1 → (x + suc k * a) % p1 < p → far x ≤ suc k
  unfolding far
  near x k l h =
      omega (arith, fewest p p1 a p1 (next p p1 a x) k (mod-lt (x + a) (omega arith)) (subst (λ (y : ℕ). y < p) (sym (one_more p1 a x k)) h))

  -- steps from x to another place below p: at least one, less than p1
  away : (x y : ℕ) → x < p1 → y < p → (x ≡ y → ⊥) → (k : ℕ) × (suc k < p1) × ((x + suc k * a) % p1 ≡ y)
  away x y l h n = go (reached prime a x y a-low a-high l (omega arith))
    where
      go : (k : ℕ) × (k < p1) × ((x + k * a) % p1 ≡ y) → (k : ℕ) × (suc k < p1) × ((x + suc k * a) % p1 ≡ y)
      go (zero, s, e) =
          absurd (n (from_start a l ∙ e))
      go (suc k, s, e) = (k, s, e)

  far_lt : (x y : ℕ) → x < p1 → y < p → (x ≡ y → ⊥) → far x < p1
  far_lt x y l h n =
      let k = away x y l h n in
      omega (arith, k.1, near x k.0 l (subst (λ (z : ℕ). z < p) (sym k.2) h))

  not_back : (x m : ℕ) → x < p1 → 0 < m → m < p1 → x ≡ (x + m * a) % p1 → ⊥
  not_back x m l h b e =
      apart prime a x 0 m a-low a-high h (omega arith)
      (sym (from_start a l) ∙ e)

  -- with two places below p, the next is another
  pub hop-other : (x y : ℕ) → x < p1 → y < p → (x ≡ y → ⊥) → x ≡ hop x → ⊥
  unfolding far
  hop-other x y l h n e = not_back x (far x) l (omega arith) (far_lt x y l h n) (e ∙ hop-far x l)

  -- with three, the one after that is another too
  pub hop-third : (x y : ℕ) → x < p1 → y < p → (x ≡ y → ⊥) → (hop x ≡ y → ⊥) → x ≡ hop (hop x) → ⊥
  unfolding far
  hop-third x y l h n o e =
      let k = away x y l h n in
      let z : far x ≤ suc k.0 = near x k.0 l (subst (λ (i : ℕ). i < p) (sym k.2) h) in
      let u : far x ≡ suc k.0 → ⊥ = λ q. o (hop-far x l ∙ ap (λ (i : ℕ). (x + i * a) % p1) q ∙ k.2) in
      let j : ℕ = k.0 - far x in
      let q : far x + suc j ≡ suc k.0 = omega arith in
      let l2 : hop x < p1 = omega (arith, land-lt (next p p1 a x) (mod-lt (x + a) (omega arith))) in
      let r : (hop x + suc j * a) % p1 ≡ y =
      ap (λ (i : ℕ). (i + suc j * a) % p1) (hop-far x l) ∙ and_then p1 a x (far x) (suc j) ∙ ap (λ (i : ℕ). (x + i * a) % p1) q ∙ k.2 in
      let f : far (hop x) ≤ suc j = near (hop x) j l2 (subst (λ (i : ℕ). i < p) (sym r) h) in
      not_back x (far x + far (hop x)) l (omega arith) (omega (arith, k.1))
      (e ∙ hop-far (hop x) l2 ∙ ap (λ (i : ℕ). (i + far (hop x) * a) % p1) (hop-far x l) ∙ and_then p1 a x (far x) (far (hop x)))
