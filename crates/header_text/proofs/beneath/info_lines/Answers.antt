-- `header_text::beneath::info_lines` meets its contract.
-- Assumes nothing.
use Rattle.std.proofs.Common.{[], ◌∷◌, ◌++◌}
use Rattle.header_text.specs.Text.{line}
use Rattle.header_text.proofs.Lines.{lined-append, line-of}
use Rattle.header_text.proofs.beneath.info_lines.Goals as goal

pub returns : goal.returns
returns c =
    let o = c.args.info in
    let al = line (65 ∷ 108 ∷ 32 ∷ []) o.symbol_alignment in
    let n = line (78 ∷ 32 ∷ []) o.num_sub_blocks in
    let z = line (90 ∷ 32 ∷ []) o.num_source_blocks in
    let t = line (84 ∷ 32 ∷ []) o.symbol_size in
    lined-append (line (70 ∷ 32 ∷ []) o.transfer_length) (t ++ (z ++ (n ++ al))) c.number_line-f.ensures
    (lined-append t (z ++ (n ++ al)) (line-of (84 ∷ 32 ∷ []) c.number_line-t.ensures c.from.ensures)
    (lined-append z (n ++ al) (line-of (90 ∷ 32 ∷ []) c.number_line-z.ensures c.from-2.ensures)
    (lined-append n al (line-of (78 ∷ 32 ∷ []) c.number_line-n.ensures c.from-3.ensures) (line-of (65 ∷ 108 ∷ 32 ∷ []) c.number_line.ensures c.from-4.ensures))))
