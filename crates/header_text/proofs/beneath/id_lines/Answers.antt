-- `header_text::beneath::id_lines` meets its contract.
-- Assumes nothing.
use Rattle.std.proofs.Common.{[], ◌∷◌}
use Rattle.header_text.specs.Text.{line}
use Rattle.header_text.proofs.Lines.{lined-append, line-of}
use Rattle.header_text.proofs.beneath.id_lines.Goals as goal

pub returns : goal.returns
returns c =
    let id = c.args.id in
    lined-append (line (83 ∷ 66 ∷ 78 ∷ 32 ∷ []) id.source_block_number) (line (69 ∷ 83 ∷ 73 ∷ 32 ∷ []) id.encoding_symbol_id)
    (line-of (83 ∷ 66 ∷ 78 ∷ 32 ∷ []) c.number_line-sbn.ensures c.from.ensures) (line-of (69 ∷ 83 ∷ 73 ∷ 32 ∷ []) c.number_line.ensures c.from-2.ensures)
