-- The laws of the octets' sum and product. The product reads its factors modulo 256, so few of them ask for a bound.
-- Assumes nothing.
use mathlib.Core.Path.{◌≡◌, refl, sym, ap, ap₂, ◌∙◌}
use mathlib.Core.Bool.{Bool, true, false}
use mathlib.Core.List.{List, [], ◌∷◌}
use Prim.Native.Nat.{ℕ, zero, suc, ◌+◌, ◌-◌, ◌*◌, ◌/◌, ◌%◌, ◌^◌, ◌<◌}
use native.Mathlib.Nat.{pos_of_ne-zero, zero-add, suc-add, mul-zero, mul-one, zero-mul, one-mul, add_comm, add-zero, mod-mod, mod-lt}
use native.Mathlib.Numerals.{add-one}
use native.Mathlib.Omega.{arith}
use lib.Bits.{xor_shr, xor_mod, xor_block, xor_shifted, xor_lt, xor_self, xor_zero_r}
use lib.Dec.{eqb, ltb, ltb→lt}
use lib.ListN.{length, get_or}
use lib.Arith.{lt-one}
use lib.Pow.{shr_lt, split, field, mod-mod-pow, pow_pos}
use Rattle.field.specs.Choice.{pick}
use Rattle.field.specs.Octet.{plus, doubled, power, powers, cycle, place, logarithm, copies, times, squares, inverse, over}
use Rattle.field.proofs.Computed.{below, under, equal, equals, along}
use Rattle.field.proofs.Xor.{swap}

-- ---- doubling

-- without a branch
carry : (a : ℕ) → a < 256 → doubled a ≡ plus (a * 2) (285 * (a / 128))
unfolding doubled
carry = equals 256 doubled (λ a. plus (a * 2) (285 * (a / 128))) tt

pub doubled-lt : (a : ℕ) → a < 256 → doubled a < 256
unfolding doubled
doubled-lt a h = ltb→lt (doubled a) 256 (under 256 (λ x. ltb (doubled x) 256) tt a h)

-- whichever of two numbers below m is picked
pub pick-lt : (t : Bool) {a b m : ℕ} → a < m → b < m → pick t a b < m
pick-lt true ha hb = ha
pick-lt false ha hb = hb

-- what holds of 0 and of 1 holds of a bit
pub bit : (P : ℕ → Type 0) → P 0 → P 1 → (x : ℕ) → x < 2 → P x
bit P p q zero h = p
bit P p q (suc zero) h = q
bit P p q (suc (suc x)) h = absurd (omega arith)

-- an octet times a bit is an octet
times_bit-lt : (a b : ℕ) → a < 256 → a * (b % 2) < 256
times_bit-lt a b h = bit (λ (x : ℕ). a * x < 256) (simp mul-zero (omega arith)) (simp mul-one h) (b % 2) (omega arith)

-- a sum times a bit, and a number times a sum of bits
by_bit : (a b x : ℕ) → x < 2 → plus a b * x ≡ plus (a * x) (b * x)
by_bit a b =
    bit (λ (x : ℕ). plus a b * x ≡ plus (a * x) (b * x)) (simp mul-zero) (simp mul-one)

by_bits : (a x y : ℕ) → x < 2 → y < 2 → a * plus x y ≡ plus (a * x) (a * y)
by_bits a x y hx hy =
    bit (λ (x : ℕ). a * plus x y ≡ plus (a * x) (a * y))
    (simp mul-zero)
    (bit (λ (y : ℕ). a * plus 1 y ≡ plus (a * 1) (a * y)) (simp (mul-zero, mul-one, xor_zero_r)) (simp (mul-zero, mul-one, xor_self)) y hy)
    x hx

twice-plus : (a b : ℕ) → plus a b * 2 ≡ plus (a * 2) (b * 2)
twice-plus a b =
    sym (add-zero (plus a b * 2)) ∙ sym (xor_block 1 a b 0 0 (omega arith) (omega arith))
    ∙ ap₂ plus (add-zero (a * 2)) (add-zero (b * 2))

pub doubled-plus : (a b : ℕ) → a < 256 → b < 256 → doubled (plus a b) ≡ plus (doubled a) (doubled b)
doubled-plus a b ha hb =
    carry (plus a b) (xor_lt 8 a b ha hb)
    ∙ ap₂ plus (twice-plus a b) (ap (λ (x : ℕ). 285 * x) (xor_shr a b 7) ∙ by_bits 285 (a / 128) (b / 128) (omega arith) (omega arith))
    ∙ swap (a * 2) (b * 2) (285 * (a / 128)) (285 * (b / 128))
    ∙ sym (ap₂ plus (carry a ha) (carry b hb))

-- ---- the product, in each of its factors

copies-lt : (n a b : ℕ) → a < 256 → copies n a b < 256
unfolding copies
copies-lt zero a b h = omega arith
copies-lt (suc n) a b h =
    xor_lt 8 (a * (b % 2)) (doubled (copies n a (b / 2)))
    (times_bit-lt a b h)
    (doubled-lt (copies n a (b / 2)) (copies-lt n a (b / 2) h))

copies-left : (n a c b : ℕ) → a < 256 → c < 256 → copies n (plus a c) b ≡ plus (copies n a b) (copies n c b)
unfolding copies
copies-left zero a c b ha hc = refl
copies-left (suc n) a c b ha hc =
    ap₂ plus (by_bit a c (b % 2) (omega arith))
    (ap doubled (copies-left n a c (b / 2) ha hc)
    ∙ doubled-plus (copies n a (b / 2)) (copies n c (b / 2)) (copies-lt n a (b / 2) ha) (copies-lt n c (b / 2) hc))
    ∙ swap (a * (b % 2)) (c * (b % 2)) (doubled (copies n a (b / 2))) (doubled (copies n c (b / 2)))

copies-right : (n a b c : ℕ) → a < 256 → copies n a (plus b c) ≡ plus (copies n a b) (copies n a c)
unfolding copies
copies-right zero a b c h = refl
copies-right (suc n) a b c h =
    ap₂ plus
    (ap (λ (x : ℕ). a * x) (xor_mod b c 1) ∙ by_bits a (b % 2) (c % 2) (omega arith) (omega arith))
    (ap (λ (x : ℕ). doubled (copies n a x)) (xor_shr b c 1) ∙ ap doubled (copies-right n a (b / 2) (c / 2) h)
    ∙ doubled-plus (copies n a (b / 2)) (copies n a (c / 2)) (copies-lt n a (b / 2) h) (copies-lt n a (c / 2) h))
    ∙ swap (a * (b % 2)) (a * (c % 2)) (doubled (copies n a (b / 2))) (doubled (copies n a (c / 2)))

doubled-zero : doubled 0 ≡ 0
unfolding doubled
doubled-zero = refl

-- doubling goes into the copies
pub copies-doubled : (n a b : ℕ) → a < 256 → doubled (copies n a b) ≡ copies n (doubled a) b
unfolding copies
copies-doubled zero a b h = doubled-zero
copies-doubled (suc n) a b h =
    doubled-plus (a * (b % 2)) (doubled (copies n a (b / 2)))
    (times_bit-lt a b h)
    (doubled-lt (copies n a (b / 2)) (copies-lt n a (b / 2) h))
    ∙ ap₂ plus
    (bit (λ (x : ℕ). doubled (a * x) ≡ doubled a * x)
    (rw (mul-zero a, mul-zero (doubled a)) doubled-zero) (rw (mul-one a, mul-one (doubled a))) (b % 2) (omega arith))
    (ap doubled (copies-doubled n a (b / 2) h))

copies-mod : (n a b : ℕ) → copies n a (b % 2 ^ n) ≡ copies n a b
unfolding copies
copies-mod zero a b = refl
copies-mod (suc n) a b =
    rw (← add-one n)
    (ap₂ (λ (x y : ℕ). plus (a * x) (doubled (copies n a y))) (mod-mod-pow b n 1) (field b n 1)
    ∙ ap (λ (x : ℕ). plus (a * (b % 2)) (doubled x)) (copies-mod n a (b / 2)))

pub times-lt : (a b : ℕ) → times a b < 256
unfolding times
times-lt a b = copies-lt 8 (a % 256) b (omega arith)

pub times-plus-left : (a c b : ℕ) → times (plus a c) b ≡ plus (times a b) (times c b)
unfolding times
times-plus-left a c b = ap (λ (x : ℕ). copies 8 x b) (xor_mod a c 8) ∙ copies-left 8 (a % 256) (c % 256) b (omega arith) (omega arith)

pub times-plus : (a b c : ℕ) → times a (plus b c) ≡ plus (times a b) (times a c)
unfolding times
times-plus a b c = copies-right 8 (a % 256) b c (omega arith)

pub times-mod-left : (a b : ℕ) → times (a % 256) b ≡ times a b
unfolding times
times-mod-left a b = ap (λ (x : ℕ). copies 8 x b) (mod-mod a 256)

pub times_mod : (a b : ℕ) → times a (b % 256) ≡ times a b
unfolding times
times_mod a b = copies-mod 8 (a % 256) b

-- ---- a function that goes through sums and reads its argument modulo 256 is settled by the eight powers of 2

pub record Linear (f : ℕ → ℕ) : Type 0 where
  pub sum : (a b : ℕ) → f (plus a b) ≡ plus (f a) (f b)
  pub low : (a : ℕ) → f (a % 256) ≡ f a

pub linear-zero : {f : ℕ → ℕ} → Linear f → f 0 ≡ 0
linear-zero {f} l = l.sum 0 0 ∙ xor_self (f 0)

module _ {f g : ℕ → ℕ} (lf : Linear f) (lg : Linear g) (same : (i : ℕ) → i < 8 → f (2 ^ i) ≡ g (2 ^ i)) where
  top : (k : ℕ) → k < 8 → (q : ℕ) → q < 2 → f (q * 2 ^ k) ≡ g (q * 2 ^ k)
  top k h =
      bit (λ (q : ℕ). f (q * 2 ^ k) ≡ g (q * 2 ^ k)) (simp zero-mul (linear-zero lf ∙ sym (linear-zero lg))) (simp one-mul (same k h))

  agree-to : (k : ℕ) → k < 9 → (a : ℕ) → a < 2 ^ k → f a ≡ g a
  agree-to zero h a ha = rw (lt-one ha) (linear-zero lf ∙ sym (linear-zero lg))
  agree-to (suc k) h a ha =
      let e : plus (a / 2 ^ k * 2 ^ k) (a % 2 ^ k) ≡ a = xor_shifted (a / 2 ^ k) k (a % 2 ^ k) (mod-lt a (pow_pos k)) ∙ split a k in
      sym (ap f e) ∙ lf.sum (a / 2 ^ k * 2 ^ k) (a % 2 ^ k)
      ∙ ap₂ plus (top k (omega arith) (a / 2 ^ k) (shr_lt 1 k (rw (add_comm 1 k, add-one) ha)))
      (agree-to k (omega arith) (a % 2 ^ k) (mod-lt a (pow_pos k)))
      ∙ sym (lg.sum (a / 2 ^ k * 2 ^ k) (a % 2 ^ k)) ∙ ap g e

  pub agree : (a : ℕ) → f a ≡ g a
  agree a = sym (lf.low a) ∙ agree-to 8 (omega arith) (a % 256) (omega arith) ∙ lg.low a

-- ---- the functions at hand

pub times-left-linear : (b : ℕ) → Linear (λ a. times a b)
times-left-linear b = record { sum = λ a c. times-plus-left a c b; low = λ a. times-mod-left a b }

pub times-linear : (a : ℕ) → Linear (times a)
times-linear a = record { sum = times-plus a; low = times_mod a }

-- one after the other
pub compose : {f g : ℕ → ℕ} → Linear f → Linear g → Linear (λ a. f (g a))
compose {f} {g} lf lg = record { sum = λ a b. ap f (lg.sum a b) ∙ lf.sum (g a) (g b); low = λ a. ap f (lg.low a) }

-- ---- the laws of a commutative ring

commutes : ℕ → Bool
commutes i = equal 8 (λ j. times (2 ^ i) (2 ^ j)) (λ j. times (2 ^ j) (2 ^ i))

pub times-comm : (a b : ℕ) → times a b ≡ times b a
unfolding times copies doubled commutes
times-comm a b =
    agree (times-left-linear b) (times-linear b)
    (λ i hi. agree (times-linear (2 ^ i)) (times-left-linear (2 ^ i))
    (equals 8 (λ j. times (2 ^ i) (2 ^ j)) (λ j. times (2 ^ j) (2 ^ i)) (under 8 commutes tt i hi)) b) a

associates : ℕ → ℕ → Bool
associates i j = equal 8 (λ k. times (times (2 ^ i) (2 ^ j)) (2 ^ k)) (λ k. times (2 ^ i) (times (2 ^ j) (2 ^ k)))

pub times-assoc : (a b c : ℕ) → times (times a b) c ≡ times a (times b c)
unfolding times copies doubled associates
times-assoc a b c =
    agree (compose (times-left-linear c) (times-left-linear b)) (times-left-linear (times b c))
    (λ i hi. agree (compose (times-left-linear c) (times-linear (2 ^ i))) (compose (times-linear (2 ^ i)) (times-left-linear c))
    (λ j hj. agree (times-linear (times (2 ^ i) (2 ^ j))) (compose (times-linear (2 ^ i)) (times-linear (2 ^ j)))
    (equals 8 (λ k. times (times (2 ^ i) (2 ^ j)) (2 ^ k)) (λ k. times (2 ^ i) (times (2 ^ j) (2 ^ k)))
    (under 8 (associates i) (under 8 (λ m. below 8 (associates m)) tt i hi) j hj)) c) b) a

pub times-left-comm : (a b c : ℕ) → times a (times b c) ≡ times b (times a c)
times-left-comm a b c = sym (times-assoc a b c) ∙ ap (λ (x : ℕ). times x c) (times-comm a b) ∙ times-assoc b a c

pub times_zero : (a : ℕ) → times a 0 ≡ 0
times_zero a = linear-zero (times-linear a)

pub zero-times : (b : ℕ) → times 0 b ≡ 0
zero-times b = linear-zero (times-left-linear b)

pub one-times : (a : ℕ) → a < 256 → times 1 a ≡ a
unfolding times copies doubled
one-times = equals 256 (times 1) (λ a. a) tt

pub times-one : (a : ℕ) → a < 256 → times a 1 ≡ a
times-one a h = times-comm a 1 ∙ one-times a h

-- ---- the powers of alpha

pub doubled-times : (a : ℕ) → a < 256 → doubled a ≡ times 2 a
unfolding times copies doubled
doubled-times = equals 256 doubled (times 2) tt

pub power-lt : (i : ℕ) → power i < 256
unfolding power
power-lt zero = omega arith
power-lt (suc i) = doubled-lt (power i) (power-lt i)

pub power-suc : (i : ℕ) → power (suc i) ≡ times 2 (power i)
unfolding power
power-suc i = doubled-times (power i) (power-lt i)

pub power-add : (i j : ℕ) → power (i + j) ≡ times (power i) (power j)
unfolding power
power-add zero j = rw zero-add (sym (one-times (power j) (power-lt j)))
power-add (suc i) j =
    ap power (suc-add i j) ∙ power-suc (i + j) ∙ ap (times 2) (power-add i j)
    ∙ sym (times-assoc 2 (power i) (power j)) ∙ ap (λ (x : ℕ). times x (power j)) (sym (power-suc i))

pub power-255 : power 255 ≡ 1
unfolding power doubled
power-255 = refl

-- ---- inverses and quotients

inverted : (a : ℕ) → a < 255 → times (inverse (suc a)) (suc a) ≡ 1
unfolding times copies doubled inverse squares
inverted = equals 255 (λ a. times (inverse (suc a)) (suc a)) (λ a. 1) tt

pub inverse-times : (a : ℕ) → 0 < a → a < 256 → times (inverse a) a ≡ 1
inverse-times zero p h = absurd (omega arith)
inverse-times (suc a) p h = inverted a (omega arith)

pub inverse-lt : (a : ℕ) → inverse a < 256
unfolding inverse squares
inverse-lt a = times-lt _ _

-- a factor that is not 0 goes out of an equation
pub times-cancel : (a b c : ℕ) → 0 < a → a < 256 → b < 256 → c < 256 → times a b ≡ times a c → b ≡ c
times-cancel a b c p ha hb hc e = sym (back b hb) ∙ ap (times (inverse a)) e ∙ back c hc
  where
    back : (x : ℕ) → x < 256 → times (inverse a) (times a x) ≡ x
    back x h = sym (times-assoc (inverse a) a x) ∙ ap (λ (y : ℕ). times y x) (inverse-times a p ha) ∙ one-times x h

pub times-nonzero : (a b : ℕ) → 0 < a → a < 256 → 0 < b → b < 256 → 0 < times a b
times-nonzero a b p ha q hb =
    pos_of_ne-zero (λ e. let z : b ≡ 0 = times-cancel a b 0 p ha hb (omega arith) (e ∙ sym (times_zero a)) in omega arith)

pub over-lt : (a b : ℕ) → over a b < 256
unfolding over
over-lt a b = times-lt a (inverse b)

pub zero-over : (b : ℕ) → over 0 b ≡ 0
unfolding over
zero-over b = zero-times (inverse b)

-- the quotient times the divisor
pub over-times : (a b : ℕ) → a < 256 → 0 < b → b < 256 → times (over a b) b ≡ a
unfolding over
over-times a b ha p hb =
    times-assoc a (inverse b) b ∙ ap (times a) (inverse-times b p hb) ∙ times-one a ha

-- and no other octet has that product
pub over-only : (a b q : ℕ) → 0 < b → b < 256 → q < 256 → times q b ≡ a → q ≡ over a b
unfolding over
over-only a b q p hb hq e =
    sym (times-one q hq) ∙ ap (times q) (sym (inverse-times b p hb) ∙ times-comm (inverse b) b)
    ∙ sym (times-assoc q b (inverse b)) ∙ ap (λ (x : ℕ). times x (inverse b)) e

-- ---- products and quotients by logarithms, as RFC 6330 section 5.7.2 has them

place-lt : (a i : ℕ) (xs : List ℕ) → i + length xs < 256 → place a i xs < 255
unfolding place
place-lt a i [] h = omega arith
place-lt a i (x ∷ xs) h = pick-lt (eqb x a) (omega arith) (place-lt a (suc i) xs (omega arith))

pub logarithm-lt : (a : ℕ) → logarithm a < 255
unfolding logarithm powers cycle
logarithm-lt a = place-lt a 0 cycle (omega arith)

cycle-at : (i : ℕ) → i < 255 → get_or cycle i 0 ≡ power i
unfolding doubled power powers cycle
cycle-at = along doubled power (λ i. refl) cycle tt

found : (a : ℕ) → a < 255 → get_or cycle (logarithm (suc a)) 0 ≡ suc a
unfolding doubled powers cycle place logarithm
found = equals 255 (λ a. get_or cycle (logarithm (suc a)) 0) suc tt

pub power-logarithm : (a : ℕ) → 0 < a → a < 256 → power (logarithm a) ≡ a
power-logarithm zero p h = absurd (omega arith)
power-logarithm (suc a) p h = sym (cycle-at (logarithm (suc a)) (logarithm-lt (suc a))) ∙ found a (omega arith)

pub times-logarithm : (a b : ℕ) → 0 < a → a < 256 → 0 < b → b < 256 → times a b ≡ power (logarithm a + logarithm b)
times-logarithm a b p ha q hb =
    sym (power-add (logarithm a) (logarithm b) ∙ ap₂ times (power-logarithm a p ha) (power-logarithm b q hb))

pub over-logarithm : (a b : ℕ) → 0 < a → a < 256 → 0 < b → b < 256 → over a b ≡ power (255 + logarithm a - logarithm b)
over-logarithm a b p ha q hb =
    sym (over-only a b (power (255 + logarithm a - logarithm b)) q hb (power-lt _)
    (ap (times (power (255 + logarithm a - logarithm b))) (sym (power-logarithm b q hb))
    ∙ sym (power-add (255 + logarithm a - logarithm b) (logarithm b))
    ∙ ap power (omega (arith, logarithm-lt b))
    ∙ power-add 255 (logarithm a) ∙ ap₂ times power-255 (power-logarithm a p ha) ∙ one-times a ha))
