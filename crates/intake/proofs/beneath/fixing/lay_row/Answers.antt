-- `intake::beneath::fixing::lay_row` meets its contract: each of the three kinds is laid by its own function.
-- Assumes nothing.
use Rattle.std.proofs.Common.{arith}
use Rattle.constraints.proofs.Accepted.{own-walks}
use Rattle.headers.proofs.Accepted.{own-l, own-ready}
use Rattle.solver.proofs.Order.{tuple-bounds, tuple-marks}
use Rattle.intake.proofs.Fixed.{laid-ldpc, laid-hdpc, laid-padding}
use Rattle.intake.proofs.beneath.fixing.lay_row.Goals as goal

pub returns-then-j-s-clause-row_laid : goal.returns-then-j-s-clause-row_laid
returns-then-j-s-clause-row_laid c = laid-ldpc _ _ _ _ c.requires.0.rules _ _ c.if-j-s.true c.row.ensures

pub returns-then-j-s-2-clause-row_laid : goal.returns-then-j-s-2-clause-row_laid
returns-then-j-s-2-clause-row_laid c = laid-hdpc _ _ _ _ c.requires.0.rules _ _ c.if-j-s.false c.if-j-s-2.true c.row-then-j-s-2.ensures

pub intermediate_tuple-x-requires : goal.intermediate_tuple-x-requires
intermediate_tuple-x-requires c = own-ready c.requires.0.rules c.requires.0.tables

pub tuple_row-requires : goal.tuple_row-requires
tuple_row-requires c =
    let p = c.requires.0 in
    let o = p.rules in
    (own-walks o, tuple-bounds _ _ o p.tables c.intermediate_tuple-x.ensures, own-l o, omega (arith, c.requires.2, o.derived.l-fits))

pub returns-clause-row_laid : goal.returns-clause-row_laid
returns-clause-row_laid c =
    let o = c.requires.0.rules in
    laid-padding _ _ _ _ o _ _ c.if-j-s-2.false c.tuple_row.ensures
    (tuple-marks c.args.tables.now o.derived c.intermediate_tuple-x.ensures c.row_number-isi.ensures)
