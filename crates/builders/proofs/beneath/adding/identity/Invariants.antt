-- `builders::beneath::adding::identity` meets its contract: after k turns the first k terms of the sum are added.
-- Assumes nothing.
use Prim.Native.Nat.{ℕ, ◌+◌}
use Rattle.field.specs.Sum.{sum}
use Rattle.constraints.specs.Ldpc.{adds}
use Rattle.builders.specs.Adding.{Added}
use Rattle.builders.proofs.beneath.adding.identity.Given as goal

abbrev pub term : ℕ → ℕ → ℕ → ℕ → ℕ
term b r c k = adds r c k (b + k)

abbrev pub invariant-loop-k : goal.invariant-loop-k
invariant-loop-k l = Added (λ r c. sum l.k (term l.b r c)) l.initial.ws l.ws l.m
