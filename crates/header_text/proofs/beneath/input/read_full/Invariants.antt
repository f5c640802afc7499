-- `header_text::beneath::input::read_full` meets its contract: what stands at the front of the store is what the reader gave, and each read that goes on takes
-- at least a byte of the room that is left. Assumes nothing.
use Rattle.std.proofs.Common.{◌-◌, ◌≤◌, length, take}
use Rattle.std.specs.Io.KnownBytes.{Consumes}
use Rattle.header_text.proofs.beneath.input.read_full.Given as goal

abbrev pub invariant-loop-n : goal.invariant-loop-n
invariant-loop-n g l =
    (l.n ≤ length l.store) × Consumes (g.R.Read.remaining l.initial.from) (g.R.Read.remaining l.from) (take l.n l.store)

abbrev pub decreases-loop-n : goal.decreases-loop-n
decreases-loop-n g l = length l.store - l.n
