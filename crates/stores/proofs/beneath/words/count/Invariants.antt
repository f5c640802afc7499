-- `stores::beneath::words::count` meets its contract: after each turn the first k columns are counted.
-- Assumes nothing.
use mathlib.Core.Path.{◌≡◌}
use Prim.Native.Nat.{◌-◌, ◌≤◌}
use Rattle.stores.specs.Bits.{bit_at}
use Rattle.stores.specs.Counting.{tally}
use Rattle.stores.proofs.beneath.words.count.Given as goal

abbrev pub invariant-loop-k : goal.invariant-loop-k
invariant-loop-k l = (l.ones ≡ tally (bit_at l.ws l.at) l.start l.k) × (l.ones ≤ l.k) × (l.k ≤ l.n)

abbrev pub decreases-loop-k : goal.decreases-loop-k
decreases-loop-k l = l.n - l.k
