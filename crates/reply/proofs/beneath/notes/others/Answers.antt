-- `reply::beneath::notes::others` meets its contract.
-- Assumes nothing.
use mathlib.Core.Path.{sym, ap}
use mathlib.Core.Bool.{Bool}
use mathlib.Core.List.{List, [], ◌++◌}
use Prim.Native.Nat.{ℕ}
use native.Mathlib.Omega.{arith}
use borrow.Author.Tests.{eq-eqb, ne_eqb}
use Rattle.field.specs.Choice.{pick}
use Rattle.header_text.proofs.Lines.{lined-is, lined-most, lined_on}
use Rattle.header_text.specs.Text.{spelled}
use Rattle.reply.specs.Ascii.{ascii}
use Rattle.reply.proofs.Lines.{lined-none}
use Rattle.reply.proofs.beneath.notes.others.Goals as goal

-- the words, by whether there is none
abbrev pick_words : ℕ → Bool → List ℕ
pick_words n none = pick none [] (ascii "note: packets of another block, passed over: " ++ (spelled 20 n ++ ascii "\n"))

pub returns : goal.returns
returns c =
    let a = c.args in
    let label = ascii "note: packets of another block, passed over: " in
    let said = lined_on label (spelled 20 a.n) (ascii "\n") c.numbered-at.ensures c.text.ensures in
    lined-is (lined-most said (omega arith)) (ap (pick_words a.n) (sym (ne_eqb a.n 0 c.if-n-eq0.false)))
