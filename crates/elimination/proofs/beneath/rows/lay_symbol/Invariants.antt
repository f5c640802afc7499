-- `elimination::beneath::rows::lay_symbol` meets its contract: after c turns the first c octets of the symbol are there, and what they hold is gathered.
-- Assumes nothing.
use Prim.Native.Nat.{ℕ}
use lib.Dec.{eqb}
use Rattle.field.proofs.Zeros.{Telling}
use Rattle.linear.specs.Bytes.{cell}
use Rattle.elimination.proofs.beneath.rows.lay_symbol.Given as goal

abbrev pub invariant-loop-c : goal.invariant-loop-c
invariant-loop-c l = Telling (λ (x : ℕ). cell l.t l.source l.k x) l.initial.symbol l.symbol 0 l.c (eqb l.seen 0)
