-- `headers_vectors::read_tables` goes on in the text.
-- Assumes nothing.
use Rattle.std.proofs.Common.{◌≤◌, length}
use Rattle.headers_vectors.proofs.read_tables.Given as goal

abbrev pub invariant-loop-entry : goal.invariant-loop-entry
invariant-loop-entry l = length l.rest ≤ length l.text
