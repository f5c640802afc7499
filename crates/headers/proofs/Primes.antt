-- Trial division up to the root; the test of a prime and the search for the next one; the prime 65,537 that ends each search.
-- Assumes nothing.
use Rattle.std.proofs.Common.{◌≡◌, ℕ, zero, suc, ◌+◌, ◌-◌, ◌*◌, ◌/◌, ◌%◌, ◌<◌, ◌≤◌, Bool, true, false, eqb, sym, refl, ap, ◌∙◌, subst, add-zero, mul-le-mul_right, mul-le-mul, one-mul, div-add-mod', arith}
use native.Mathlib.Nat.{mul-mod_right}
use native.Mathlib.Decide.{dec_lt, ℕ_discrete}
use Rattle.field.specs.Choice.{pick}
use Rattle.headers.specs.Prime.{Prime, FirstFrom, clear, prime, seek, first_prime}
use Rattle.headers.proofs.Tests.{Tells, tells_both, tells-not, tells_as, tells-le, tells-eq, is-test}

-- no number from 2 up to below d divides n
abbrev pub Clear : ℕ → ℕ → Type 0
Clear n d = (e : ℕ) → e < d → 2 ≤ e → n % e ≡ 0 → ⊥

-- what no number below d divides, with n below the square of d, is prime
pub trial : (n d : ℕ) → 2 ≤ n → n < d * d → Clear n d → Prime n
trial n d h q k = record { two = h; alone = λ e b a z. go e a b z (dec_lt e d) }
  where
    go : (e : ℕ) → 2 ≤ e → e < n → n % e ≡ 0 → Dec (e < d) → ⊥
    go e a b z (yes l) = k e l a z
    go e a b z (no l) =
        let f : ℕ = n / e in
        let s : f * e ≡ n = sym (add-zero (f * e)) ∙ ap (λ (x : ℕ). f * e + x) (sym z) ∙ div-add-mod' n e in
        small f s (dec_lt f d) (dec_lt f 2)
      where
        small : (f : ℕ) → f * e ≡ n → Dec (f < d) → Dec (f < 2) → ⊥
        small f s (no u) w = omega (arith, mul-le-mul {n₁ = d} {m₁ = d} {n₂ = f} {m₂ = e} (omega arith) (omega arith))
        small f s (yes u) (yes w) = omega (arith, mul-le-mul_right {m = f} {n = 1} e (omega arith), one-mul e)
        small f s (yes u) (no w) = k f u (omega arith) (ap (λ (x : ℕ). x % f) (sym s) ∙ mul-mod_right f e)

-- what an even number divides, 2 divides
even : (n m : ℕ) → n % (m + m) ≡ 0 → n % 2 ≡ 0
even n m z =
    let f : ℕ = n / (m + m) in
    let s : f * (m + m) ≡ n = sym (add-zero (f * (m + m))) ∙ ap (λ (x : ℕ). f * (m + m) + x) (sym z) ∙ div-add-mod' n (m + m) in
    omega arith

-- so after 2 the odd numbers are enough
pub clear_step : (n d : ℕ) → 2 ≤ d → Clear n d → (n % d ≡ 0 → ⊥) → Clear n (d + (1 + d % 2))
clear_step n d h c u e b a z = go (dec_lt e d) (ℕ_discrete e d)
  where
    go : Dec (e < d) → Dec (e ≡ d) → ⊥
    go (yes l) q = c e l a z
    go (no l) (yes q) = u (subst (λ (x : ℕ). n % x ≡ 0) q z)
    go (no l) (no q) =
        let r : e ≡ e / 2 + e / 2 = omega arith in
        c 2 (omega arith) (omega arith) (even n (e / 2) (subst (λ (x : ℕ). n % x ≡ 0) r z))

-- a divisor up to the root is a proper one
pub composite : (n d : ℕ) → 2 ≤ d → d * d ≤ n → n % d ≡ 0 → Prime n → ⊥
composite n d h q z p = p.alone d (omega (arith, mul-le-mul_right {m = 2} {n = d} d h)) h z

-- the root of a number up to 65537 is at most 256
pub root : (d n : ℕ) → d * d ≤ n → n ≤ 65537 → d ≤ 256
root d n q h = go (dec_lt d 257)
  where
    go : Dec (d < 257) → d ≤ 256
    go (yes l) = omega arith
    go (no l) = absurd (omega (arith, mul-le-mul {n₁ = 257} {m₁ = 257} {n₂ = d} {m₂ = d} (omega arith) (omega arith)))

pub clear-tells : (n k : ℕ) → Tells (clear n k) (Clear n (k + 2))
unfolding clear
clear-tells n zero = record { passes = λ e d b a z. omega arith; breaks = λ e h. let z : ◌≡◌ {A = ℕ} 0 1 = cc in omega arith }
clear-tells n (suc k) =
    tells_as (λ h. next h.0 h.1) (λ h. (h (k + 2) (omega arith) (omega arith), λ e b. h e (omega arith)))
    (tells_both (tells-not (tells-eq (n % (k + 2)) 0)) (clear-tells n k))
  where
    next : (n % (k + 2) ≡ 0 → ⊥) → Clear n (k + 2) → Clear n (suc k + 2)
    next u c e b a z = go (ℕ_discrete e (k + 2))
      where
        go : Dec (e ≡ k + 2) → ⊥
        go (yes q) = u (subst (λ (x : ℕ). n % x ≡ 0) q z)
        go (no q) = c e (omega arith) a z

-- the test of a prime tells whether it is one
pub prime-tells : (n : ℕ) → Tells (prime n) (Prime n)
unfolding prime
prime-tells n =
    tells_as (λ h. record { two = h.0; alone = λ d b. h.1 d (omega (arith, h.0)) }) (λ p. (p.two, λ d b. p.alone d (omega (arith, p.two))))
    (tells_both (tells-le 2 n) (clear-tells n (n - 2)))

pub last : Prime 65537
unfolding clear
last = trial 65537 257 (omega arith) (omega arith) ((clear-tells 65537 255).passes (is-test (clear 65537 255) tt))

pub below_last : {n : ℕ} → (Prime n → ⊥) → n ≤ 65537 → n < 65537
below_last {n} h l = go (dec_lt n 65537)
  where
    go : Dec (n < 65537) → n < 65537
    go (yes k) = k
    go (no k) = let e : 65537 ≡ n = omega arith in absurd (h (subst Prime e last))

-- the search finds the first prime
here : {p : ℕ} → Prime p → FirstFrom p p
here q = record { least = omega arith; prime = q; first = λ x l m y. omega arith }

further : {p r : ℕ} → (Prime p → ⊥) → FirstFrom (suc p) r → FirstFrom p r
further {p} {r} n f = record { least = omega (arith, f.least); prime = f.prime; first = λ q l m y. go q l m y (ℕ_discrete q p) }
  where
    go : (q : ℕ) → q < r → p ≤ q → Prime q → Dec (q ≡ p) → ⊥
    go q l m y (yes e) = n (subst Prime e y)
    go q l m y (no e) = f.first q l (omega arith) y

seeks : (n p : ℕ) → n + p ≡ 65537 → FirstFrom p (seek n p)
unfolding seek
seeks zero p h = let e : 65537 ≡ p = omega arith in subst (λ (x : ℕ). FirstFrom x x) e (here last)
seeks (suc n) p h = go (prime p) (prime-tells p) (seeks n (suc p) (omega arith))
  where
    go : (b : Bool) → Tells b (Prime p) → FirstFrom (suc p) (seek n (suc p)) → FirstFrom p (pick b p (seek n (suc p)))
    go true t f = here (t.passes refl)
    go false t f = further (t.breaks refl) f

pub first-from : (p : ℕ) → p ≤ 65537 → FirstFrom p (first_prime p)
unfolding first_prime
first-from p h = seeks (65537 - p) p (omega arith)

-- the first prime is one
pub first_one : {p a b : ℕ} → FirstFrom p a → FirstFrom p b → a ≡ b
first_one {p} {a} {b} f g = go (dec_lt a b) (dec_lt b a)
  where
    go : Dec (a < b) → Dec (b < a) → a ≡ b
    go (yes l) d = absurd (g.first a l f.least f.prime)
    go (no c) (yes l) = absurd (f.first b l g.least g.prime)
    go (no c) (no d) = omega arith

-- no first prime lies past a prime
pub first-high : {p r q : ℕ} → FirstFrom p r → p ≤ q → Prime q → r ≤ q
first-high {p} {r} {q} f h y = go (dec_lt q r)
  where
    go : Dec (q < r) → r ≤ q
    go (yes l) = absurd (f.first q l h y)
    go (no l) = omega arith

-- a number is prime exactly when it is the first prime from it on
pub first-tells : {p r : ℕ} → FirstFrom p r → Tells (eqb r p) (Prime p)
first-tells {p} {r} f = tells_as (λ (e : r ≡ p). subst Prime e f.prime) (λ q. first_one f (here q)) (tells-eq r p)
