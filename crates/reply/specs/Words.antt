-- The words of the receiving program, letter by letter (docs/DELIVERY.md).
-- Assumes nothing.
use Rattle.std.specs.Prelude.{◌≡◌, Bool, List, [], ◌++◌, ℕ, ◌≤◌, eqb, length}
use Rattle.field.specs.Choice.{pick}
use Rattle.headers.specs.Bytes.{Laid}
use Rattle.header_text.specs.Text.{spelled}
use Rattle.field.specs.declared.refusal.Refusal.{Refusal}
use Rattle.field.specs.declared.refusal.Refusal.TheVariants as Why
use Rattle.elimination.specs.declared.verdict.Verdict.{Verdict}
use Rattle.elimination.specs.declared.verdict.Verdict.TheVariants.{Solved, Contradiction, Open}
use Rattle.delivery.specs.declared.beneath.packets.Passed.{Passed}
use Rattle.delivery.specs.declared.beneath.screen.Stop.{Stop}
use Rattle.delivery.specs.declared.beneath.screen.Stop.TheVariants as Stops
use Rattle.reply.specs.Ascii.{ascii}
use Rattle.reply.specs.Rows.{row_words}
use Rattle.reply.specs.declared.beneath.rows.Typed.{Typed}
use Rattle.reply.specs.declared.beneath.arguments.Misuse.{Misuse}
use Rattle.reply.specs.declared.beneath.arguments.Misuse.TheVariants as Misuses
use Rattle.reply.specs.declared.beneath.words.Failure.{Failure}
use Rattle.reply.specs.declared.beneath.words.Failure.TheVariants as Failures

-- a line at the front of a store
pub record Line (words xs ys : List ℕ) (n : ℕ) : Type 0 where
  pub laid : Laid words xs ys 0
  pub count : n ≡ length words
  pub room : length words ≤ length xs

-- t: the numbers of the row, for what is wrong with it
abbrev pub refusal_words : Typed → Refusal → List ℕ
refusal_words t Why.DivisorZero = ascii "refused 1: an octet is divided by 0\n"
refusal_words t Why.OutOfRange = ascii "refused 2: a number is outside its range\n"
refusal_words t Why.BadTransmission = ascii "refused 3: the transmission information breaks its rules\n"
refusal_words t (Why.BadRow part) = row_words part t
refusal_words t Why.BadTables = ascii "refused 5: the random tables are not 1,024 numbers\n"
refusal_words t Why.Outside = ascii "refused 6: a place is outside\n"
refusal_words t Why.SamePlace = ascii "refused 7: destination and source are one\n"
refusal_words t Why.WrongLength = ascii "refused 8: the delivery ends in its first 32 bytes\n"
refusal_words t Why.BadCount = ascii "refused 9: the count of source symbols is not from 1 to K'\n"
refusal_words t Why.BadSize = ascii "refused 10: the symbol size is 0\n"
refusal_words t Why.NotBegun = ascii "refused 14: nothing was begun\n"

abbrev pub stop_words : Typed → Stop → List ℕ
stop_words t (Stops.Refused why) = refusal_words t why
stop_words t Stops.TooLarge = ascii "too large for this program: T is at most 1,024, L at most 300\n"
stop_words t Stops.SeveralBlocks = ascii "several blocks: this program takes one source block of one sub-block\n"

-- 'at least' is a promise: `not-before` (promises/proofs/Floor), for any number of packets `judged-not-before`, that fewer packets more do not solve it,
-- whatever they bring; of the questions of one run `not-before-later` (Waiting)
abbrev pub open_words : ℕ → List ℕ
open_words s = ascii "open, " ++ (spelled 20 s ++ ascii " more independent packets at least\n")

-- ---- notes: every one begins with 'note: ', and no other line does

abbrev pub verdict_words : Verdict → List ℕ
verdict_words Solved = ascii "solved\n"
verdict_words Contradiction = ascii "contradiction\n"
verdict_words (Open s) = open_words s

-- how it stands after n packets of its block
abbrev pub progress_words : ℕ → Verdict → List ℕ
progress_words n v = ascii "note: after " ++ (spelled 20 n ++ (ascii " packets: " ++ verdict_words v))

-- what was passed over, if anything was
abbrev pub others_words : ℕ → List ℕ
others_words n = pick (eqb n 0) [] (ascii "note: packets of another block, passed over: " ++ (spelled 20 n ++ ascii "\n"))

abbrev pub cut_words : Bool → List ℕ
cut_words cut = pick cut (ascii "note: the last packet is not whole, and is passed over\n") []

abbrev pub passed_words : Passed → List ℕ
passed_words p = others_words p.others ++ cut_words p.cut

-- ---- what else keeps the program from its work

-- of arguments that the program does not take
abbrev pub misuse_words : Misuse → List ℕ
misuse_words Misuses.Arguments = ascii "more than one argument: it is receive, or receive OUT, with the delivery on standard input\n"
misuse_words Misuses.NoName = ascii "the name of OUT is empty\n"
misuse_words Misuses.LongName = ascii "the name of OUT has more than 4,000 bytes\n"

-- in front of a colon and the system's reason
abbrev pub failure_words : Failure → List ℕ
failure_words Failures.Reading = ascii "standard input cannot be read"
failure_words Failures.Output = ascii "standard output cannot be written"
failure_words Failures.Making = ascii "no file can be made beside OUT"
failure_words Failures.Writing = ascii "the file beside OUT cannot be written"
failure_words Failures.Syncing = ascii "the file beside OUT cannot be synced"
failure_words Failures.Closing = ascii "the file beside OUT cannot be closed"
failure_words Failures.Renaming = ascii "the file beside OUT cannot be renamed to OUT"
failure_words Failures.Removing = ascii "the file beside OUT cannot be removed"
