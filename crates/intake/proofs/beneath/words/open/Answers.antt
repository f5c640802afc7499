-- `intake::beneath::words::open` meets its contract: the front is written, and the tables behind it.
-- Assumes nothing.
use Rattle.std.proofs.Common.{sym, arith}
use lib.ListN.{get_or-append}
use lib.Seq.{get_or-append-add}
use Rattle.field.proofs.Writing.{written_as, written_is}
use Rattle.field.proofs.Parts.{written_then}
use Rattle.intake.specs.State.{front}
use Rattle.intake.proofs.beneath.words.open.Goals as goal

pub returns : goal.returns
returns c =
    let a = c.args in
    let f = front a.r a.k a.t in
    let w = written_as c.copy.ensures (λ k h. sym (get_or-append f a.tables.now 0 k h)) in
    written_is (written_then w c.copy-2.ensures (λ k h. sym (get_or-append-add f a.tables.now k 0))) (omega (arith, c.requires.1))
