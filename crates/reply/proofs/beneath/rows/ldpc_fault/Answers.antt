-- `reply::beneath::rows::ldpc_fault` meets its contract.
-- Assumes nothing.
use mathlib.Core.Path.{ap}
use mathlib.Core.List.{◌++◌}
use Prim.Native.Nat.{ℕ}
use native.Mathlib.Omega.{arith}
use Rattle.header_text.proofs.Lines.{lined-append, lined-is, lined-most}
use Rattle.header_text.specs.Text.{spelled}
use Rattle.reply.specs.Ascii.{ascii}
use Rattle.reply.proofs.Lines.{lined-number}
use Rattle.reply.proofs.beneath.rows.ldpc_fault.Goals as goal

pub returns : goal.returns
returns c =
    let over = lined-number (ascii ")/") c.numbered-over.ensures c.from.ensures in
    let value = lined-number (ascii ") = ") c.numbered-value.ensures c.bands.ensures in
    let rest = lined-append _ _ over (lined-append _ _ value c.text.ensures) in
    lined-most (lined-append _ _ c.difference-terms.ensures rest) (omega arith)
