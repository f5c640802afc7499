-- `headers::beneath::row::derive` meets its contract: each rule has its test, in document 01's order, and the four numbers follow.
-- Assumes nothing.
use Rattle.std.proofs.Common.{◌≤◌, ◌<◌, refl, arith}
use Rattle.field.proofs.Refusals.{handed}
use Rattle.headers.specs.Row.{Derives, b_of, p_of, row_of}
use Rattle.headers.specs.declared.row.Row.{Row}
use Rattle.headers.proofs.Tests.{denied}
use Rattle.headers.proofs.Rules.{breaks-w, breaks-b, breaks-p, breaks-ldpc, breaks-l}
use Rattle.std.proofs.lemmas.Bool.{not_from_false}
use Rattle.headers.proofs.beneath.row.derive.Goals as goal

pub returns-then-not-is_prime : goal.returns-then-not-is_prime
returns-then-not-is_prime c =
    let a = c.args in
    let own : Row = row_of a.kp a.j a.s a.h a.w in
    breaks-w own (c.in_ok-in_range.ensures) (denied c.is_prime.result (not_from_false _ c.if-not-is_prime.true) c.is_prime.ensures)

pub returns-then-w-s : goal.returns-then-w-s
returns-then-w-s c =
    let a = c.args in
    let own : Row = row_of a.kp a.j a.s a.h a.w in
    breaks-b own (c.in_ok-in_range.ensures) (c.if-not-is_prime.ensures) (λ o. omega (arith, o))

pub returns-then-l-w : goal.returns-then-l-w
returns-then-l-w c =
    let a = c.args in
    let own : Row = row_of a.kp a.j a.s a.h a.w in
    breaks-p own (c.in_ok-in_range.ensures) (c.if-not-is_prime.ensures) (omega arith) (λ o. omega (arith, o))

pub returns-then-int_div_ceil-s : goal.returns-then-int_div_ceil-s
returns-then-int_div_ceil-s c =
    let a = c.args in
    let own : Row = row_of a.kp a.j a.s a.h a.w in
    breaks-ldpc own (c.in_ok-in_range.ensures) (c.if-not-is_prime.ensures) (omega arith) (omega arith)
    (λ o. omega (arith, o, c.int_div_ceil.ensures))

pub returns-then-l-gt65535 : goal.returns-then-l-gt65535
returns-then-l-gt65535 c =
    let a = c.args in
    let own : Row = row_of a.kp a.j a.s a.h a.w in
    breaks-l own (c.in_ok-in_range.ensures) (c.if-not-is_prime.ensures) (omega arith) (omega arith)
    (omega (arith, c.int_div_ceil.ensures)) (λ o. omega (arith, o))

pub returns : goal.returns
returns c =
    record {
      ranges = c.in_ok-in_range.ensures;
      w-prime = c.if-not-is_prime.ensures;
      b-low = omega arith;
      p-low = omega arith;
      b-high = omega (arith, c.int_div_ceil.ensures);
      l-high = omega arith;
      derived = record { l-fits = refl; p-fits = refl; b-fits = refl; p1-fits = c.first_prime-p1.ensures };
    }
