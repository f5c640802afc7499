-- `elimination::beneath::reducing::clear_column` meets its contract: the column is 0 in the rows before row j.
-- Assumes nothing.
use Rattle.elimination.specs.Reducing.{ColumnCleared}
use Rattle.elimination.proofs.beneath.reducing.clear_column.Given as goal

abbrev pub invariant-loop-j : goal.invariant-loop-j
invariant-loop-j l = ColumnCleared l.l l.t l.j l.q l.c l.initial.rows l.initial.values l.rows l.values
