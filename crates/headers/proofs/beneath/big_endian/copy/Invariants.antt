-- `headers::beneath::big_endian::copy` meets its contract: after i turns the first i bytes are there.
-- Assumes nothing.
use Rattle.std.proofs.Common.{get_or}
use Rattle.field.specs.Runs.{Written}
use Rattle.headers.proofs.beneath.big_endian.copy.Given as goal

abbrev pub invariant-loop-i : goal.invariant-loop-i
invariant-loop-i l = Written (λ k. get_or l.bytes k 0) l.initial.store l.store l.at l.i
