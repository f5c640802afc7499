-- `builders::beneath::adding::endings` meets its contract: after k turns the first k terms of the sum are added.
-- Assumes nothing.
use Prim.Native.Nat.{ℕ, ◌+◌, ◌%◌}
use Rattle.field.specs.Octet.{plus}
use Rattle.field.specs.Sum.{sum}
use Rattle.constraints.specs.Ldpc.{adds}
use Rattle.builders.specs.Adding.{Added}
use Rattle.builders.proofs.beneath.adding.endings.Given as goal

abbrev pub term : ℕ → ℕ → ℕ → ℕ → ℕ → ℕ
term w p r c k = plus (adds r c k (w + k % p)) (adds r c k (w + (k + 1) % p))

abbrev pub invariant-loop-k : goal.invariant-loop-k
invariant-loop-k l = Added (λ r c. sum l.k (term l.w l.p r c)) l.initial.ws l.ws l.m
