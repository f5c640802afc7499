-- `reply::beneath::rows::l_fault` meets its contract.
-- Assumes nothing.
use mathlib.Core.Path.{ap}
use mathlib.Core.List.{◌++◌}
use Prim.Native.Nat.{ℕ}
use native.Mathlib.Omega.{arith}
use Rattle.header_text.proofs.Lines.{lined-append, lined-is, lined-most}
use Rattle.header_text.specs.Text.{spelled}
use Rattle.reply.specs.Ascii.{ascii}
use Rattle.reply.proofs.Lines.{lined-number}
use Rattle.reply.proofs.beneath.rows.l_fault.Goals as goal

pub returns : goal.returns
returns c =
    let rest = lined-append _ _ (lined-number (ascii " = ") c.numbered-value.ensures c.total.ensures) c.text.ensures in
    lined-most (lined-append _ _ c.sum-terms.ensures rest) (omega arith)
