use mathlib.Core.Path.{refl, sym}
use native.Mathlib.Nat.{zero-add}
use native.Mathlib.Omega.{arith}
use Rattle.field.proofs.Zeros.{telling-none, gathered-more, told-all}
use Rattle.elimination.proofs.beneath.rows.lay_symbol.Goals as goal

pub loop-c-init : goal.loop-c-init
loop-c-init c = telling-none _ _ _

pub loop-c-preserved : goal.loop-c-preserved
loop-c-preserved c = gathered-more c.loop-c.seen c.loop-c.invariant (sym (zero-add c.loop-c.c)) (omega arith) refl

pub returns-clause-value : goal.returns-clause-value
returns-clause-value c = (told-all {m = c.args.t} c.loop-c.invariant (omega arith)).1
