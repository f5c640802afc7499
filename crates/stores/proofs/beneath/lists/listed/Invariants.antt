-- `stores::beneath::lists::listed` meets its contract: after k turns the ones of the first k places are listed.
-- Assumes nothing.
use Rattle.std.proofs.Common.{◌≡◌, ℕ, ◌+◌, ◌≤◌, ◌<◌}
use Rattle.stores.specs.Counting.{Listed}
use Rattle.stores.proofs.beneath.lists.listed.Given as goal

abbrev pub invariant-loop-k : goal.invariant-loop-k
invariant-loop-k g l = (
    (f : ℕ → ℕ) → ((k b : ℕ) → k < l.many → goal.F-post g l.bit (l.start + k) b → b ≡ f (l.start + k)) → Listed f l.start l.k l.initial.out l.out l.m
    ) × (l.m ≤ l.k)
