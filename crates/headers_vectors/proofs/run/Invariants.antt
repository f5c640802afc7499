-- `headers_vectors::run` ends: each question takes at least its letter.
-- Assumes nothing.
use Rattle.std.proofs.Common.{length}
use Rattle.headers_vectors.proofs.run.Given as goal

abbrev pub decreases-loop-kind : goal.decreases-loop-kind
decreases-loop-kind g l = length l.rest
