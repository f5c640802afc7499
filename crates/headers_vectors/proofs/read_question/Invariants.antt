-- `headers_vectors::read_question` goes on in the text.
-- Assumes nothing.
use Rattle.std.proofs.Common.{◌≤◌, length}
use Rattle.headers_vectors.proofs.read_question.Given as goal

abbrev pub invariant-loop-x : goal.invariant-loop-x
invariant-loop-x l = length l.rest ≤ length l.text
