-- What is written of a delivery, and to which stream (docs/DELIVERY.md).
-- Assumes nothing.
use Rattle.std.specs.Prelude.{◌≡◌, List, [], ◌++◌, Ok, Err, ℕ, take}
use Rattle.header_text.specs.Counts.{IsPrefixLen}
use Rattle.elimination.specs.declared.verdict.Verdict.{Verdict}
use Rattle.elimination.specs.declared.verdict.Verdict.TheVariants.{Solved, Contradiction, Open}
use Rattle.delivery.specs.Received.{Comes, Received}
use Rattle.reply.specs.Ascii.{ascii}
use Rattle.reply.specs.Rows.{typed_in}
use Rattle.reply.specs.Words.{Line, open_words, passed_words, stop_words}
use Rattle.reply.specs.declared.beneath.rows.Typed.{Typed}
use Rattle.reply.specs.declared.beneath.replying.Spoken.{Spoken}
use Rattle.reply.specs.declared.beneath.replying.Reply.{Reply}
use Rattle.reply.specs.declared.beneath.replying.Reply.TheVariants.{Object, Words}

-- what standard output (or the file OUT) gets of a store, and standard error, behind the notes of another
abbrev pub to_output : Reply → List ℕ → List ℕ
to_output (Object n) ys = take n ys
to_output (Words n) ys = []

abbrev pub words_in : Reply → List ℕ → List ℕ
words_in (Object n) ys = []
words_in (Words n) ys = take n ys

abbrev pub to_error : Spoken → (ms ys : List ℕ) → List ℕ
to_error s ms ys = take s.notes ms ++ words_in s.reply ys

-- there are as many bytes
abbrev pub InStore : Reply → List ℕ → Type 0
InStore (Object n) ys = IsPrefixLen n ys
InStore (Words n) ys = IsPrefixLen n ys

-- a line for standard error; xs is the store before, ys after
abbrev pub InWords : List ℕ → (xs ys : List ℕ) → Reply → Type 0
InWords words xs ys (Object n) = ⊥
InWords words xs ys (Words n) = Line words xs ys n

-- the object, of f bytes, stands in the store already; all else is said in a line
abbrev pub SaidOf : ℕ → (xs ys : List ℕ) → Reply → Verdict → Type 0
SaidOf f xs ys r Solved = (r ≡ Object f) × (ys ≡ xs)
SaidOf f xs ys r Contradiction = InWords (ascii "contradiction\n") xs ys r
SaidOf f xs ys r (Open s) = InWords (open_words s) xs ys r

-- t: the numbers of the row
abbrev pub Said : Typed → (xs ys : List ℕ) → Reply → Received → Type 0
Said t xs ys r (Ok c) = SaidOf c.size xs ys r c.verdict
Said t xs ys r (Err why) = InWords (stop_words t why) xs ys r

-- the notes at the end: what was passed over
abbrev pub notes_of : Received → List ℕ
notes_of (Ok c) = passed_words c.passed
notes_of (Err why) = []

-- The contract: what comes of the delivery d, said, and the notes on it; ls and ms are their store before and after.
pub record Replied (d ls ms xs ys : List ℕ) (s : Spoken) : Type 0 where
  pub what : Received
  pub store : List ℕ
  pub comes : Comes d xs store what
  pub noted : Line (notes_of what) ls ms s.notes
  pub said : Said (typed_in d) store ys s.reply what
