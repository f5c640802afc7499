-- `elimination::beneath::within::sum` meets its contract: the first c places are done.
-- Assumes nothing.
use Prim.Native.Nat.{◌+◌}
use lib.ListN.{get_or}
use Rattle.field.specs.Octet.{plus}
use Rattle.field.specs.Runs.{Written}
use Rattle.elimination.proofs.beneath.within.sum.Given as goal

abbrev pub invariant-loop-c : goal.invariant-loop-c
invariant-loop-c l =
    Written (λ x. plus (get_or l.initial.store (l.to + x) 0) (get_or l.initial.store (l.from + x) 0)) l.initial.store l.store l.to l.c
