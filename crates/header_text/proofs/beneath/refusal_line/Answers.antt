-- `header_text::beneath::refusal_line` meets its contract.
-- Assumes nothing.
use Rattle.std.proofs.Common.{[], ◌∷◌, sym, ◌∙◌}
use Rattle.field.proofs.Answers.{code-number}
use Rattle.header_text.proofs.Lines.{line-of}
use Rattle.header_text.proofs.beneath.refusal_line.Goals as goal

pub returns : goal.returns
returns c =
    line-of (114 ∷ 101 ∷ 102 ∷ 117 ∷ 115 ∷ 101 ∷ 100 ∷ 32 ∷ []) c.number_line.ensures (c.from.ensures ∙ c.number.ensures ∙ sym (code-number c.args.why))
