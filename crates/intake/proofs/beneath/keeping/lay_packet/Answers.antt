-- `intake::beneath::keeping::lay_packet` meets its contract: the row of its tuple, and a copy of its symbol.
-- Assumes nothing.
use Rattle.std.proofs.Common.{◌∙◌, arith}
use Rattle.constraints.proofs.Accepted.{own-walks}
use Rattle.headers.proofs.Accepted.{own-l, own-ready}
use Rattle.solver.proofs.Order.{tuple-bounds, tuple-marks}
use Rattle.intake.proofs.Fixed.{from_zero}
use Rattle.intake.proofs.Refusing.{first-copied}
use Rattle.intake.proofs.beneath.keeping.lay_packet.Goals as goal

pub intermediate_tuple-x-requires : goal.intermediate_tuple-x-requires
intermediate_tuple-x-requires c = own-ready c.requires.0 c.requires.1

pub tuple_row-requires : goal.tuple_row-requires
tuple_row-requires c =
    let o = c.requires.0 in
    (own-walks o, tuple-bounds _ _ o c.requires.1 c.intermediate_tuple-x.ensures, own-l o, omega (arith, c.requires.5.row, o.derived.l-fits))

pub returns-clause-row_laid : goal.returns-clause-row_laid
returns-clause-row_laid c =
    let d = c.requires.0.derived in
    let marks = tuple-marks c.args.tables.now d c.intermediate_tuple-x.ensures c.isi_of.ensures in
    λ k h. from_zero c.tuple_row.ensures k (omega (arith, d.l-fits)) ∙ marks k

pub returns-clause-symbol_laid : goal.returns-clause-symbol_laid
returns-clause-symbol_laid c = first-copied c.args.symbol.now _ _ c.lay_symbol.ensures.row_copied
