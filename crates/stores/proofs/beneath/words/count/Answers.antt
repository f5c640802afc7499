-- `stores::beneath::words::count` meets its contract.
-- Assumes nothing.
use mathlib.Core.Path.{◌≡◌, sym}
use Prim.Native.Nat.{ℕ, ◌≤◌}
use native.Mathlib.Omega.{arith}
use Rattle.stores.specs.Bits.{bit}
use Rattle.stores.specs.Counting.{tally}
use Rattle.stores.proofs.Bits.{bit-lt}
use Rattle.stores.proofs.Counting.{tally-none, tally-le}
use Rattle.stores.proofs.Popcount.{count-more}
use Rattle.stores.proofs.beneath.words.count.Goals as goal

few : (w b m : ℕ) {ones : ℕ} → ones ≡ tally (bit w) b m → ones ≤ m
few w b m e = omega (arith, e, tally-le (bit w) b (bit-lt w) m)

pub loop-k-init : goal.loop-k-init
loop-k-init c = (sym (tally-none _ _), omega arith, omega arith)

pub overflow_add-ones : goal.overflow_add-ones
overflow_add-ones c = omega (arith, few _ _ _ c.count_bits-ones.ensures, c.min-m.ensures)

pub loop-k-preserved : goal.loop-k-preserved
loop-k-preserved c =
    let a = c.args in (
      count-more a.ws.now a.at a.start c.loop-k.k _ _ _ c.loop-k.invariant.0 c.count_bits-ones.ensures (omega (arith, c.min-m.ensures)),
      omega (arith, few _ _ _ c.count_bits-ones.ensures),
      omega (arith, c.min-m.ensures),
    )
