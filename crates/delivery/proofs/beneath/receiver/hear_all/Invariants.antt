-- `delivery::beneath::receiver::hear_all` meets its contract: after i turns the first i packets were heard.
-- Assumes nothing.
use mathlib.Core.Path.{◌≡◌}
use Rattle.delivery.specs.Layout.{others_in}
use Rattle.delivery.specs.Hearing.{Held, StaysLent, stretch_at}
use Rattle.delivery.proofs.beneath.receiver.hear_all.Given as goal

abbrev pub invariant-loop-i : goal.invariant-loop-i
invariant-loop-i l = record {
  others : l.others ≡ others_in l.bytes l.t l.i;
  heard : Held (stretch_at l.bytes l.i) l.memory;
  lent : StaysLent l.initial.memory l.memory;
}
