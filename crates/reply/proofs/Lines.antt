-- Lines at the front of a store: under another name, how many bytes they are, and which; no line.
-- Assumes nothing.
use mathlib.Core.Path.{◌≡◌, refl, sym, ap, ◌∙◌, subst}
use mathlib.Core.List.{List, [], ◌++◌}
use Prim.Native.Nat.{ℕ, ◌≤◌}
use native.Mathlib.Omega.{arith}
use lib.ListN.{length, take}
use lib.Seq.{length-take-le}
use Rattle.header_text.specs.Counts.{IsPrefixLen}
use Rattle.headers.proofs.Bytes.{laid-front}
use Rattle.field.proofs.Writing.{written_none}
use Rattle.header_text.specs.Text.{Lined, spelled}
use Rattle.header_text.proofs.Lines.{lined-is}
use Rattle.reply.specs.Words.{Line}

pub counts : {n : ℕ} (ys : List ℕ) → n ≤ length ys → IsPrefixLen n ys
counts {n} ys h = (h, sym (length-take-le n ys h))

pub line-counts : {ws xs ys : List ℕ} {n : ℕ} → Line ws xs ys n → IsPrefixLen n ys
line-counts {ys = ys} u = counts ys (omega (arith, u.count, u.room, u.laid.size))

pub line-is : {ws xs ys : List ℕ} {n : ℕ} → Line ws xs ys n → take n ys ≡ ws
line-is {ws} {xs} {ys} u = ap (λ (m : ℕ). take m ys) u.count ∙ laid-front ws u.laid u.room

pub line_as : {bs cs xs ys : List ℕ} {n : ℕ} → Line bs xs ys n → bs ≡ cs → Line cs xs ys n
line_as {bs} {cs} {xs} {ys} {n} u e = subst (λ (ds : List ℕ). Line ds xs ys n) e u

-- the same number under another name
pub lined-number : (label : List ℕ) {x y m : ℕ} {xs ys : List ℕ} {at to : ℕ} → Lined (label ++ spelled 20 x) m xs ys at to → x ≡ y
    → Lined (label ++ spelled 20 y) m xs ys at to
lined-number label u e = lined-is u (ap (λ (n : ℕ). label ++ spelled 20 n) e)

-- no text, in any room
pub lined-none : (n : ℕ) (xs : List ℕ) (at : ℕ) → Lined [] n xs xs at at
lined-none n xs at = record { laid = written_none _ xs at; ends = omega arith; short = omega arith }
