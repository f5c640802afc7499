-- The worked examples of document 01 that are marked to be proved, proved together: octets, degrees, partition, walks and an LDPC row.
-- Assumes nothing.
use lib.Dec.{T}
use Rattle.field.specs.Octet.{doubled, copies, times, squares, inverse, over}
use Rattle.field.specs.Sum.{sum, unit}
use Rattle.field.specs.Ones.{ones}
use Rattle.field.specs.Examples.{hold}
use Rattle.headers.specs.Degree.{climb, degree}
use Rattle.headers.specs.Prime.{clear, prime, seek, first_prime}
use Rattle.headers.specs.Quotient.{ceil}
use Rattle.constraints.specs.Walk.{lt_places, land, pi_places, places}
use Rattle.constraints.specs.Ldpc.{adds, one, two, three, ldpc}
use Rattle.constraints.specs.Examples.{examples}

pub examples-hold : T (hold examples)
unfolding doubled copies times squares inverse over sum unit ones climb degree clear prime seek first_prime ceil lt_places land pi_places places adds one two three ldpc
examples-hold = tt
