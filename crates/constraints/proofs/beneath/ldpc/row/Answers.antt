-- `constraints::beneath::ldpc::row` meets its contract: its three parts, one after the other.
-- Assumes nothing.
use mathlib.Core.Path.{◌≡◌, sym}
use Prim.Native.Nat.{◌+◌, ◌-◌, ◌%◌, ◌≤◌}
use native.Mathlib.Nat.{mod-lt}
use native.Mathlib.Omega.{arith}
use lib.ListN.{length}
use Rattle.field.proofs.Writing.{written_is, written_as, written_from}
use Rattle.field.proofs.Parts.{written_then}
use Rattle.constraints.proofs.Closed.{ldpc-first, identity-is, end_is, two-apart, two-ones}
use Rattle.constraints.proofs.beneath.ldpc.row.Goals as goal

pub returns : goal.returns
returns c =
    let a = c.args in
    let q = c.requires in
    let e : a.at + a.w ≡ a.at + (a.w - a.s + a.s) = omega arith in
    let f : a.at + a.b ≡ a.at + (a.w - a.s) = omega arith in
    let crossed = written_as c.crossings.ensures (λ k h. sym (ldpc-first a.s a.w a.p a.r k h)) in
    let front = written_then crossed (written_from c.one_of.ensures f) (identity-is q.0 a.r q.2) in
    let next = mod-lt (a.r + 1) {m = a.p} (omega arith) in
    let room : a.at + a.w + a.p ≤ length c.one_of.new.out = omega (arith, c.one_of.ensures.size, c.crossings.ensures.size) in
    let ones = two-ones {j = a.at + a.w + (a.r + 1) % a.p} c.one_of-2.ensures next (two-apart a.p a.r (omega arith)) (omega arith) room in
    written_is (written_then front (written_from ones e) (λ k h. end_is q.0 a.r q.2 k)) (omega arith)
