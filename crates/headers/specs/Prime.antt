-- Primes, as a fact and as a test, and the smallest prime not below a number (P1 of RFC 6330 section 5.3.3.3).
-- Assumes nothing.
use Rattle.std.specs.Prelude.{ℕ, zero, suc, ◌+◌, ◌-◌, ◌%◌, ◌<◌, ◌≤◌, Bool, true, not, ◌==◌, ◌≢◌, nat_le}
use Rattle.field.specs.Choice.{pick, both}

-- at least 2, and no number from 2 up to below it divides it
pub record Prime (n : ℕ) : Type 0 where
  pub two : 2 ≤ n
  pub alone : (d : ℕ) → d < n → 2 ≤ d → n % d ≢ 0

-- the smallest prime not below p
pub record FirstFrom (p r : ℕ) : Type 0 where
  pub least : p ≤ r
  pub prime : Prime r
  pub first : (q : ℕ) → q < r → p ≤ q → Prime q → ⊥

-- none of the k numbers from 2 on divides n
unfoldable pub clear : ℕ → ℕ → Bool
clear n zero = true
clear n (suc k) = both (not (n % (k + 2) == 0)) (clear n k)

-- the same as a test: the theorem `prime-tells` says so
unfoldable pub prime : ℕ → Bool
prime n = both (nat_le 2 n) (clear n (n - 2))

-- the first prime among the next n numbers
unfoldable pub seek : ℕ → ℕ → ℕ
seek zero p = p
seek (suc n) p = pick (prime p) p (seek n (suc p))

-- 65,537 is prime: the theorem `first-from` says that this is the smallest prime not below p, for each p up to there
unfoldable pub first_prime : ℕ → ℕ
first_prime p = seek (65537 - p) p
