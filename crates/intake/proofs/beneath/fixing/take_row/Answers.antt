-- `intake::beneath::fixing::take_row` meets its contract: the row is laid, its symbol is 0, and it is taken.
-- Assumes nothing.
use Rattle.std.proofs.Common.{arith}
use Rattle.intake.proofs.Fixed.{cleared, from_zero}
use Rattle.intake.proofs.Steps.{adds-alike, buffered, buffered-is}
use Rattle.intake.proofs.beneath.fixing.take_row.Goals as goal

pub take_next-requires-clause-wide : goal.take_next-requires-clause-wide
take_next-requires-clause-wide c =
    let wide = c.requires.3 in (
      record {
        row = omega (arith, c.lay_row.ensures.row_len_unchanged, wide.row, c.requires.0.rules.derived.l-fits);
        symbol = omega (arith, c.clear.ensures.size, wide.symbol);
      },
      cleared c.clear.ensures,
    )

pub returns-clause-adds : goal.returns-clause-adds
returns-clause-adds c =
    let x = c.lay_row.new.row in
    let y = c.clear.new.dst in
    adds-alike (buffered x y) _ _ _ _ _ _ _ c.args.p c.take_next.result
    (buffered-is _ _ x y c.lay_row.ensures.row_laid (from_zero c.clear.ensures)) (rw c.requires.0.rules.derived.l-fits at c.take_next.ensures)
