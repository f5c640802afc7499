-- `headers::beneath::row::in_range` meets its contract: each of the first four rules has its test, in their order.
-- Assumes nothing.
use Rattle.std.proofs.Common.{arith}
use Rattle.field.specs.declared.refusal.Part.TheVariants as Parts
use Rattle.headers.specs.Row.{Rule, row_of}
use Rattle.headers.specs.declared.row.Row.{Row}
use Rattle.headers.proofs.Rules.{breaks-wide, breaks-kp, breaks-s, breaks-h}
use Rattle.headers.proofs.beneath.row.in_range.Goals as goal

pub returns-then-kp-ge65536 : goal.returns-then-kp-ge65536
returns-then-kp-ge65536 c =
    let own : Row = let a = c.args in row_of a.kp a.j a.s a.h a.w in
    breaks-wide own (λ o. omega (arith, o.0))

pub returns-then-j-ge65536 : goal.returns-then-j-ge65536
returns-then-j-ge65536 c =
    let own : Row = let a = c.args in row_of a.kp a.j a.s a.h a.w in
    breaks-wide own (λ o. omega (arith, o.1.0))

pub returns-then-s-ge65536 : goal.returns-then-s-ge65536
returns-then-s-ge65536 c =
    let own : Row = let a = c.args in row_of a.kp a.j a.s a.h a.w in
    breaks-wide own (λ o. omega (arith, o.1.1.0))

pub returns-then-h-ge65536 : goal.returns-then-h-ge65536
returns-then-h-ge65536 c =
    let own : Row = let a = c.args in row_of a.kp a.j a.s a.h a.w in
    breaks-wide own (λ o. omega (arith, o.1.1.1.0))

pub returns-then-w-ge65536 : goal.returns-then-w-ge65536
returns-then-w-ge65536 c =
    let own : Row = let a = c.args in row_of a.kp a.j a.s a.h a.w in
    breaks-wide own (λ o. omega (arith, o.1.1.1.1))

pub returns-then-kp-lt1 : goal.returns-then-kp-lt1
returns-then-kp-lt1 c =
    let own : Row = let a = c.args in row_of a.kp a.j a.s a.h a.w in
    let narrow : Rule own Parts.Wide = (omega arith, (omega arith, (omega arith, (omega arith, omega arith)))) in
    breaks-kp own narrow (λ o. omega (arith, o.0))

pub returns-then-kp-gt56403 : goal.returns-then-kp-gt56403
returns-then-kp-gt56403 c =
    let own : Row = let a = c.args in row_of a.kp a.j a.s a.h a.w in
    let narrow : Rule own Parts.Wide = (omega arith, (omega arith, (omega arith, (omega arith, omega arith)))) in
    breaks-kp own narrow (λ o. omega (arith, o.1))

pub returns-then-s-ne1 : goal.returns-then-s-ne1
returns-then-s-ne1 c =
    let own : Row = let a = c.args in row_of a.kp a.j a.s a.h a.w in
    let narrow : Rule own Parts.Wide = (omega arith, (omega arith, (omega arith, (omega arith, omega arith)))) in
    let kp-in : Rule own Parts.Kp = (omega arith, omega arith) in
    breaks-s own narrow kp-in (λ o. omega (arith, o.0))

pub returns-then-s-lt3 : goal.returns-then-s-lt3
returns-then-s-lt3 c =
    let own : Row = let a = c.args in row_of a.kp a.j a.s a.h a.w in
    let narrow : Rule own Parts.Wide = (omega arith, (omega arith, (omega arith, (omega arith, omega arith)))) in
    let kp-in : Rule own Parts.Kp = (omega arith, omega arith) in
    breaks-s own narrow kp-in (λ o. omega (arith, o.1))

pub returns-then-h-lt2 : goal.returns-then-h-lt2
returns-then-h-lt2 c =
    let own : Row = let a = c.args in row_of a.kp a.j a.s a.h a.w in
    let narrow : Rule own Parts.Wide = (omega arith, (omega arith, (omega arith, (omega arith, omega arith)))) in
    let kp-in : Rule own Parts.Kp = (omega arith, omega arith) in
    let s-in : Rule own Parts.S = (omega arith, omega arith) in
    breaks-h own narrow kp-in s-in (λ o. omega (arith, o.0))

pub returns-then-h-gt255 : goal.returns-then-h-gt255
returns-then-h-gt255 c =
    let own : Row = let a = c.args in row_of a.kp a.j a.s a.h a.w in
    let narrow : Rule own Parts.Wide = (omega arith, (omega arith, (omega arith, (omega arith, omega arith)))) in
    let kp-in : Rule own Parts.Kp = (omega arith, omega arith) in
    let s-in : Rule own Parts.S = (omega arith, omega arith) in
    breaks-h own narrow kp-in s-in (λ o. omega (arith, o.1))
