-- `headers::beneath::prime::first_prime` meets its contract. The inner loop is left where a divisor is found, so the number
-- is no prime and not 65,537: the outer loop ends there. Assumes nothing.
use Rattle.std.proofs.Common.{ℕ, ◌-◌, ◌<◌, ◌≤◌}
use Rattle.headers.specs.Prime.{Prime}
use Rattle.headers.proofs.Primes.{Clear}
use Rattle.headers.proofs.beneath.prime.first_prime.Given as goal

abbrev pub invariant-divisors : goal.invariant-divisors
invariant-divisors l = (2 ≤ l.d) × (l.d ≤ 257) × Clear l.n l.d

abbrev pub decreases-divisors : goal.decreases-divisors
decreases-divisors l = 257 - l.d

abbrev pub invariant-search : goal.invariant-search
invariant-search l = (l.p ≤ l.n) × (l.n ≤ 65537) × ((q : ℕ) → q < l.n → l.p ≤ q → Prime q → ⊥)

abbrev pub decreases-search : goal.decreases-search
decreases-search l = 65537 - l.n
