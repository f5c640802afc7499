-- The line of a refused row: it names the numbers that are checked, and no two parts share one.
-- Assumes nothing.
use mathlib.Core.Path.{◌≡◌, refl, sym, ap, ◌∙◌}
use mathlib.Core.List.{List}
use Prim.Native.Nat.{ℕ, ◌-◌, ◌≤◌}
use native.Mathlib.Omega.{arith}
use borrow.Author.Tests.{le-ltb}
use lib.Dec.{eqb}
use lib.ListN.{length, get_or}
use Rattle.field.specs.Answer.{place_of}
use Rattle.field.specs.Choice.{pick}
use Rattle.field.specs.declared.refusal.Part.{Part}
use Rattle.field.specs.declared.refusal.Part.TheVariants as Parts
use Rattle.field.proofs.Answers.{place-only}
use Rattle.headers.specs.Row.{row_of}
use Rattle.header_text.specs.Text.{Lined, spelled}
use Rattle.header_text.proofs.Lines.{lined-is, lined-most}
use Rattle.delivery.specs.Layout.{row_in}
use Rattle.reply.specs.Rows.{fault_words, row_words, typed_in}
use Rattle.reply.specs.Words.{Line}
use Rattle.reply.specs.declared.beneath.rows.Typed.{Typed}

-- the numbers that a line names are those of the row that is checked
pub typed-row : (d : List ℕ) → 32 ≤ length d
    → row_in d ≡ row_of (typed_in d).kp (typed_in d).j (typed_in d).s (typed_in d).h (typed_in d).w
unfolding row_in
typed-row d h = rw (le-ltb (length d) 32 h)

-- the part of a line, read back from its 17th and 18th byte
abbrev part_said : List ℕ → ℕ
part_said ws = pick (eqb (get_or ws 17 0) 48) 10 (get_or ws 16 0 - 48)

pub part-said : (p : Part) (t : Typed) → part_said (row_words p t) ≡ place_of p
unfolding spelled
part-said Parts.Wide t = refl
part-said Parts.Kp t = refl
part-said Parts.S t = refl
part-said Parts.H t = refl
part-said Parts.W t = refl
part-said Parts.B t = refl
part-said Parts.P t = refl
part-said Parts.Ldpc t = refl
part-said Parts.L t = refl
part-said Parts.Derived t = refl

-- so lines of two parts differ, whatever the numbers
pub lines-differ : (p q : Part) (t u : Typed) → row_words p t ≡ row_words q u → p ≡ q
lines-differ p q t u e = place-only p q (sym (part-said p t) ∙ ap part_said e ∙ part-said q u)

-- a text from the front is a line
pub lined-line : {ws xs ys : List ℕ} {m n : ℕ} → Lined ws m xs ys 0 n → m ≤ length xs → Line ws xs ys n
lined-line u h = record { laid = u.laid; count = omega (arith, u.ends); room = omega (arith, u.short) }
