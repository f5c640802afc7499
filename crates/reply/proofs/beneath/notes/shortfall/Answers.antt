-- `reply::beneath::notes::shortfall` meets its contract.
-- Assumes nothing.
use native.Mathlib.Omega.{arith}
use Rattle.header_text.proofs.Lines.{lined-most, lined_on}
use Rattle.header_text.specs.Text.{spelled}
use Rattle.reply.specs.Ascii.{ascii}
use Rattle.reply.proofs.Lines.{lined-number}
use Rattle.reply.proofs.beneath.notes.shortfall.Goals as goal

pub returns : goal.returns
returns c =
    let next = lined-number (ascii "open, ") c.numbered-next.ensures c.from.ensures in
    let said = lined_on (ascii "open, ") (spelled 20 c.args.x) (ascii " more independent packets at least\n") next c.text.ensures in
    lined-most said (omega arith)
