-- `header_text::beneath::all_lines` meets its contract.
-- Assumes nothing.
use mathlib.Core.Path.{ap}
use mathlib.Core.List.{◌++◌}
use native.Mathlib.Omega.{arith}
use Rattle.headers.specs.Headers.{info_checked}
use Rattle.header_text.specs.Text.{info_lines, id_lines, verdict_line}
use Rattle.header_text.proofs.Lines.{lined-is, lined-append, lined-most}
use Rattle.header_text.proofs.beneath.all_lines.Goals as goal

pub returns : goal.returns
returns c =
    let start = c.args in
    lined-most
    (lined-append (info_lines start.info) (id_lines start.id ++ verdict_line (info_checked start.info)) c.info_lines-after_info.ensures
    (lined-append (id_lines start.id) (verdict_line (info_checked start.info)) c.id_lines-after_id.ensures
    (lined-is c.verdict_line.ensures (ap verdict_line c.check.ensures)))) (omega arith)
