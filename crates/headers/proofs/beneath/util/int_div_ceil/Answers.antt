-- `headers::beneath::util::int_div_ceil` meets its contract: std's quotient rounded up is that of the definition.
-- Assumes nothing.
use Rattle.std.proofs.Common.{◌≡◌, ℕ, ◌%◌, ◌<◌, ◌∙◌, arith}
use native.Mathlib.Decide.{ℕ_discrete}
use Rattle.std.specs.Int.{div_ceil}
use Rattle.headers.specs.Quotient.{ceil}
use Rattle.headers.proofs.Quotient.{ceil-exact, ceil-more}
use Rattle.headers.proofs.beneath.util.int_div_ceil.Goals as goal

rounded : (a b : ℕ) → 0 < b → div_ceil a b ≡ ceil a b
rounded a b h = go (ℕ_discrete (a % b) 0)
  where
    go : Dec (a % b ≡ 0) → div_ceil a b ≡ ceil a b
    go (yes e) = omega (arith, ceil-exact a b h e)
    go (no d) = omega (arith, ceil-more a b h d)

pub returns : goal.returns
returns c = c.div_ceil.ensures ∙ rounded c.args.num c.args.denom c.requires
