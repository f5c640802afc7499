-- `reply::beneath::rows::p_fault` meets its contract.
-- Assumes nothing.
use mathlib.Core.Path.{ap}
use mathlib.Core.List.{◌++◌}
use Prim.Native.Nat.{ℕ}
use native.Mathlib.Omega.{arith}
use Rattle.header_text.proofs.Lines.{lined-append, lined-is, lined-most}
use Rattle.reply.specs.Ascii.{ascii}
use Rattle.reply.specs.Rows.{signed_words}
use Rattle.reply.proofs.Lines.{lined-number}
use mathlib.Core.Path.{ap₂}
use Rattle.reply.proofs.beneath.rows.p_fault.Goals as goal

pub returns : goal.returns
returns c =
    let less = lined-number (ascii " - ") c.numbered-less.ensures c.from.ensures in
    let value = lined-is c.signed-value.ensures (ap₂ (λ (x y : ℕ). ascii " = " ++ signed_words x y) c.total.ensures c.from-2.ensures) in
    let rest = lined-append _ _ less (lined-append _ _ value c.text.ensures) in
    lined-most (lined-append _ _ c.sum-terms.ensures rest) (omega arith)
