-- `headers::beneath::prime::is_prime` meets its contract.
-- Assumes nothing.
use Rattle.std.proofs.Common.{eqb, sym, subst, arith}
use Rattle.headers.specs.Prime.{FirstFrom}
use Rattle.headers.proofs.Tests.{told}
use Rattle.headers.proofs.Primes.{first-from, first-tells}
use Rattle.headers.proofs.beneath.prime.is_prime.Goals as goal

pub returns-then-n-lt2 : goal.returns-then-n-lt2
returns-then-n-lt2 c = λ p. omega (arith, p.two)

pub returns : goal.returns
returns c =
    let n = c.args.n in
    told (eqb c.first_prime.result n) (first-tells (subst (FirstFrom n) (sym c.first_prime.ensures) (first-from n (omega arith))))
