-- `reply::beneath::notes::progress` meets its contract.
-- Assumes nothing.
use native.Mathlib.Omega.{arith}
use Rattle.header_text.proofs.Lines.{lined-append, lined_on}
use Rattle.header_text.specs.Text.{spelled}
use mathlib.Core.List.{◌++◌}
use Rattle.reply.specs.Ascii.{ascii}
use Rattle.reply.specs.Words.{verdict_words}
use Rattle.reply.proofs.Rows.{lined-line}
use Rattle.reply.proofs.beneath.notes.progress.Goals as goal

pub returns : goal.returns
returns c =
    let a = c.args in
    let rest = lined-append (ascii " packets: ") (verdict_words a.v) c.text-at.ensures c.verdict.ensures in
    lined-line (lined_on (ascii "note: after ") (spelled 20 a.n) (ascii " packets: " ++ verdict_words a.v) c.numbered-number.ensures rest)
    (omega (arith, c.requires))
