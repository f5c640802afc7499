-- `header_text::beneath::numbered` meets its contract: the label, and the digits behind it.
-- Assumes nothing.
use Rattle.std.proofs.Common.{◌∙◌}
use Rattle.header_text.proofs.Lines.{numbered-laid}
use Rattle.header_text.proofs.beneath.numbered.Goals as goal

pub returns : goal.returns
returns c =
    numbered-laid c.args.label.now c.args.x (c.as_bytes-digits.ensures.value ∙ c.format.ensures.text) c.ranges.x.fits c.copy.ensures c.copy-2.ensures
