-- `field::doubling::double` meets its contract: antt tests the 256 octets.
-- Assumes nothing.
use mathlib.Core.Path.{◌≡◌}
use Prim.Native.Nat.{ℕ, ◌*◌, ◌/◌, ◌%◌, ◌<◌}
use Rattle.field.specs.Octet.{plus, doubled}
use Rattle.field.proofs.Computed.{equals}
use Rattle.field.proofs.doubling.double.Goals as goal

shifted : (a : ℕ) → a < 256 → plus (a * 2 % 256) (29 * (a / 128)) ≡ doubled a
unfolding doubled
shifted = equals 256 (λ a. plus (a * 2 % 256) (29 * (a / 128))) doubled tt

pub returns : goal.returns
returns c = shifted c.args.a c.ranges.a.fits
