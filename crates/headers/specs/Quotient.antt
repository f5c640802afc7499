-- Quotients rounded up.
-- Assumes nothing.
use Rattle.std.specs.Prelude.{ℕ, ◌+◌, ◌-◌, ◌/◌}

-- RFC 6330, 5.1.2: ceil(a/b), the smallest integer that is not below a/b; the theorems `ceil-enough` and `ceil-least` say so
unfoldable pub ceil : ℕ → ℕ → ℕ
ceil a b = (a + (b - 1)) / b
