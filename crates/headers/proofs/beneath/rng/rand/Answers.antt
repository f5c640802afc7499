-- `headers::beneath::rng::rand` meets its contract: the bytes of y are those of the definition.
-- Assumes nothing.
use Rattle.std.proofs.Common.{◌≡◌, ◌/◌, ◌%◌, mod-lt, arith}
use Rattle.headers.specs.Rand.{random}
use Rattle.headers.proofs.beneath.rng.rand.Goals as goal

pub returns : goal.returns
unfolding random
returns c =
    let high : c.args.y / 16777216 % 256 ≡ c.args.y / 16777216 = omega (arith, c.ranges.y.fits) in (
      rw (c.entry.ensures, c.entry-2.ensures, c.entry-3.ensures, c.entry-4.ensures, c.to_le_bytes.ensures, high),
      mod-lt _ c.requires.1,
    )
