-- `elimination::beneath::reducing::reduce` meets its contract: before turn q the rows from q on are off those before them, if the stores stood so.
-- Assumes nothing.
use Rattle.elimination.proofs.Units.{ReducedFrom}
use Rattle.elimination.proofs.beneath.reducing.reduce.Given as goal

abbrev pub invariant-loop-q : goal.invariant-loop-q
invariant-loop-q l = ReducedFrom l.l l.t l.q l.pivots l.initial.rows l.initial.values l.rows l.values
