-- `field_vectors::digest` is safe: the digest stays below its modulus.
-- Assumes nothing.
use Rattle.std.proofs.Common.{◌<◌}
use Rattle.field_vectors.proofs.digest.Given as goal

abbrev pub invariant-loop-a : goal.invariant-loop-a
invariant-loop-a g l = l.h < 4294967291

abbrev pub invariant-loop-b : goal.invariant-loop-b
invariant-loop-b g l = l.h < 4294967291
