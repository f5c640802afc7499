-- `builders::beneath::adding::crossings` meets its contract: after k turns the first k terms of the sum are added.
-- Assumes nothing.
use Rattle.field.specs.Sum.{sum}
use Rattle.constraints.specs.Ldpc.{turn}
use Rattle.builders.specs.Adding.{Added}
use Rattle.builders.proofs.beneath.adding.crossings.Given as goal

abbrev pub invariant-loop-k : goal.invariant-loop-k
invariant-loop-k l = Added (λ r c. sum l.k (turn l.s r c)) l.initial.ws l.ws l.m
