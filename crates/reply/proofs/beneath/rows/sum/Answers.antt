-- `reply::beneath::rows::sum` meets its contract.
-- Assumes nothing.
use mathlib.Core.List.{◌++◌}
use native.Mathlib.Omega.{arith}
use Rattle.header_text.proofs.Lines.{lined-append, lined-most, lined_on}
use Rattle.header_text.specs.Text.{spelled}
use Rattle.reply.specs.Ascii.{ascii}
use Rattle.reply.proofs.Lines.{lined-number}
use Rattle.reply.proofs.beneath.rows.sum.Goals as goal

pub returns : goal.returns
returns c =
    let t = c.args.t in
    let h = ascii " + " ++ spelled 20 t.h in
    let kp = lined-number c.args.label.now c.numbered-kp.ensures c.from.ensures in
    let s = lined-number (ascii " + ") c.numbered-s.ensures c.from-2.ensures in
    let rest = lined-append (ascii " + " ++ spelled 20 t.s) h s (lined-number (ascii " + ") c.numbered.ensures c.from-3.ensures) in
    lined-most (lined_on c.args.label.now (spelled 20 t.kp) (ascii " + " ++ (spelled 20 t.s ++ h)) kp rest) (omega arith)
