-- `reply::beneath::rows::bands` meets its contract: 0 where S is 0, or W below S.
-- Assumes nothing.
use mathlib.Core.Path.{sym}
use Prim.Native.Nat.{◌-◌}
use native.Mathlib.Nat.{div-zero}
use native.Mathlib.Omega.{arith}
use Rattle.headers.specs.Quotient.{ceil}
use Rattle.headers.proofs.Quotient.{ceil-le}
use Rattle.reply.proofs.beneath.rows.bands.Goals as goal

pub returns-then-t-eq0 : goal.returns-then-t-eq0
unfolding ceil
returns-then-t-eq0 c = rw c.if-t-eq0.true (sym (div-zero _))
