-- `encoding::beneath::enc::add_symbols` meets its contract: after i turns the symbols at the first i places are added.
-- Assumes nothing.
use Rattle.field.specs.Runs.{Written}
use Rattle.encoding.specs.Encoded.{symbols_added}
use Rattle.encoding.proofs.beneath.enc.add_symbols.Given as goal

abbrev pub invariant-loop-p : goal.invariant-loop-p
invariant-loop-p l = Written (symbols_added l.t l.initial.out l.intermediates l.list l.p-index) l.initial.out l.out 0 l.t
