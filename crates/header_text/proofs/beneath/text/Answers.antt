-- `header_text::beneath::text` meets its contract.
-- Assumes nothing.
use Rattle.std.proofs.Common.{sym, arith}
use Rattle.header_text.proofs.Lines.{lined-is, lined-counts, lined-most}
use Rattle.header_text.proofs.beneath.text.Goals as goal

pub returns-in-Ok : goal.returns-in-Ok
returns-in-Ok c =
    let told = lined-is c.all_lines.ensures (sym c.in-Ok.ensures.read) in
    record { lined = told; prefix_len = lined-counts told c.requires }

pub returns-in-Err : goal.returns-in-Err
returns-in-Err c =
    let told = lined-most (lined-is c.refusal_line.ensures (sym c.in-Err.ensures.refused)) (omega arith) in
    record { lined = told; prefix_len = lined-counts told c.requires }
