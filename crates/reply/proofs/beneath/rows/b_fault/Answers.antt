-- `reply::beneath::rows::b_fault` meets its contract.
-- Assumes nothing.
use native.Mathlib.Omega.{arith}
use Rattle.header_text.proofs.Lines.{lined-append, lined-most}
use mathlib.Core.Path.{ap₂}
use Prim.Native.Nat.{ℕ}
use mathlib.Core.List.{◌++◌}
use Rattle.header_text.proofs.Lines.{lined-is}
use Rattle.reply.specs.Ascii.{ascii}
use Rattle.reply.specs.Rows.{signed_words}
use Rattle.reply.proofs.beneath.rows.b_fault.Goals as goal

pub returns : goal.returns
returns c =
    let value = lined-is c.signed-value.ensures (ap₂ (λ (x y : ℕ). ascii " = " ++ signed_words x y) c.from.ensures c.from-2.ensures) in
    let rest = lined-append _ _ value c.text.ensures in
    lined-most (lined-append _ _ c.difference-terms.ensures rest) (omega arith)
