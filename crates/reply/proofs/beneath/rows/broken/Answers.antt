-- `reply::beneath::rows::broken` meets its contract: the part, its sentence and a line feed.
-- Assumes nothing.
use mathlib.Core.Path.{ap}
use mathlib.Core.List.{◌++◌}
use Prim.Native.Nat.{ℕ}
use native.Mathlib.Omega.{arith}
use Rattle.header_text.proofs.Lines.{lined-append, lined-is}
use Rattle.header_text.specs.Text.{spelled}
use Rattle.reply.specs.Ascii.{ascii}
use Rattle.reply.proofs.Rows.{lined-line}
use Rattle.reply.proofs.Lines.{lined-number}
use mathlib.Core.Path.{◌∙◌}
use Rattle.reply.proofs.beneath.rows.broken.Goals as goal

pub returns : goal.returns
returns c =
    let part = lined-number (ascii "refused 4, part ") c.numbered-after_part.ensures (c.from.ensures ∙ c.place.ensures) in
    let rest = lined-append _ _ c.text-at.ensures (lined-append _ _ c.fault-end.ensures c.text.ensures) in
    lined-line (lined-append _ _ part rest) (omega (arith, c.requires))
