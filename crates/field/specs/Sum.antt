-- Sums of octets over a range, and the unit matrix: the one word for them in all layers.
-- Assumes nothing.
use Rattle.std.specs.Prelude.{ℕ, zero, suc, eqb}
use Rattle.field.specs.Choice.{pick}
use Rattle.field.specs.Octet.{plus}

-- RFC 6330, 5.7.2: the sum, by exclusive or, of f 0, f 1, .., f (n - 1)
unfoldable pub sum : ℕ → (ℕ → ℕ) → ℕ
sum zero f = 0
sum (suc n) f = plus (f zero) (sum n (λ i. f (suc i)))

-- 1 where the two numbers are equal, else 0
unfoldable pub unit : ℕ → ℕ → ℕ
unit i j = pick (eqb i j) 1 0
