use Rattle.std.proofs.Common.{length, ◌≡◌, ◌≤◌}
use Rattle.delivery.specs.Hearing.{StaysLent}
use Rattle.receive.proofs.listening.listen.Given as goal

abbrev pub invariant-loop-count : goal.invariant-loop-count
invariant-loop-count l = record {
  others : l.others ≤ l.count;
  packet : length l.packet ≡ length l.initial.packet;
  lent : StaysLent l.initial.memory l.memory;
}
