-- `builders::beneath::adding::add_places` meets its contract: after k turns the first k terms of the sum are added.
-- Assumes nothing.
use mathlib.Core.List.{List}
use Prim.Native.Nat.{ℕ}
use lib.ListN.{get_or}
use Rattle.field.specs.Sum.{sum}
use Rattle.constraints.specs.Ldpc.{adds}
use Rattle.builders.specs.Adding.{Added}
use Rattle.builders.proofs.beneath.adding.add_places.Given as goal

abbrev pub term : ℕ → List ℕ → ℕ → ℕ → ℕ → ℕ
term i list r c k = adds r c i (get_or list k 0)

abbrev pub invariant-loop-j : goal.invariant-loop-j
invariant-loop-j l = Added (λ r c. sum l.j-index (term l.i l.list r c)) l.initial.ws l.ws l.m
