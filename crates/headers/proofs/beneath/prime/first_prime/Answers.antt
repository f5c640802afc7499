use Rattle.std.proofs.Common.{◌<◌, mul-le-mul, arith, rules, below_more}
use Rattle.headers.specs.Prime.{Prime}
use Rattle.headers.proofs.Primes.{clear_step, trial, composite, root, below_last, first-from, first_one}
use Rattle.headers.proofs.beneath.prime.first_prime.Goals as goal
use Rattle.headers.proofs.beneath.prime.first_prime.Goals.{Then-n-d-eq0}

pub search-init : goal.search-init
search-init c = (search rules, omega arith, λ q a b p. omega arith)

pub divisors-init : goal.divisors-init
divisors-init c = (omega arith, omega arith, λ e a b z. omega arith)

pub overflow_mul-d : goal.overflow_mul-d
overflow_mul-d c = omega (arith, mul-le-mul c.divisors.invariant.1 c.divisors.invariant.1)

pub divisors-smaller : goal.divisors-smaller
divisors-smaller c = omega (arith, root _ _ c.if-n-d.false c.search.invariant.1)

pub divisors-preserved : goal.divisors-preserved
divisors-preserved c = (
  omega arith,
  omega (arith, root _ _ c.if-n-d.false c.search.invariant.1),
  clear_step _ _ c.divisors.invariant.0 c.divisors.invariant.2 c.if-n-d-eq0.false,
)

-- a number with a divisor is no prime, so it is not the last
no-prime : (c : Then-n-d-eq0) → Prime c.search.n → ⊥
no-prime c = composite _ _ c.divisors.invariant.0 c.if-n-d.false c.if-n-d-eq0.true

pub search-smaller : goal.search-smaller
search-smaller c =
    let before_last : c.search.n < 65537 = below_last (no-prime c) c.search.invariant.1 in
    omega (arith, before_last)

pub search-preserved : goal.search-preserved
search-preserved c =
    let before_last : c.search.n < 65537 = below_last (no-prime c) c.search.invariant.1 in
    (omega arith, omega (arith, before_last), below_more _ _ c.search.invariant.2 (λ _. no-prime c))

pub returns : goal.returns
returns c =
    first_one
    (record {
      least = c.search.invariant.0;
      prime = trial _ _ (omega arith) c.if-n-d.true c.divisors.invariant.2;
      first = c.search.invariant.2;
    }) (first-from _ (omega arith))
