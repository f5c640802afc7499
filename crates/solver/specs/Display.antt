-- Document 01, 'Solver and symbols': what is displayed of source symbol i.
-- Assumes nothing.
use Rattle.std.specs.Prelude.{Bool, true, false, not, List, [], ◌∷◌, ℕ, suc, ◌+◌, ◌*◌, eqb, leb, ltb, length, take, drop}
use Rattle.field.specs.Choice.{pick}
use Rattle.field.specs.Answer.{Outcome, given, refused, unless, before}
use Rattle.solver.specs.declared.display.Place.{Place}
use Rattle.solver.specs.declared.display.Place.TheVariants.{Arrived, Rebuilt}

-- an id of 16,777,216 or more is among them
unfoldable pub any_large : List ℕ → Bool
any_large [] = false
any_large (e ∷ es) = pick (leb 16777216 e) true (any_large es)

-- how many stand before the first i
unfoldable pub standing : List ℕ → ℕ → ℕ
standing [] i = 0
standing (e ∷ es) i = pick (eqb e i) 0 (suc (standing es i))

-- the refusals: 9, 10, 8, 6
abbrev pub answerable : ℕ → Bool → ℕ → ℕ → ℕ → ℕ → ℕ → Outcome (Unit {0})
answerable n large came built k t i =
    unless (ltb k 1) 9 (unless (ltb 56403 k) 9 (unless (ltb 65535 n) 9 (unless large 9
    (unless (eqb t 0) 10 (unless (not (eqb came (n * t))) 10 (unless (ltb built (k * t)) 8 (unless (leb k i) 6 (given tt))))))))

-- the first arrival with that id counts; a symbol that did not come stands at its own place of the rebuilt store
abbrev pub whereof : ℕ → List ℕ → ℕ → Place
whereof t es i = pick (ltb (standing es i) (length es)) (Arrived (standing es i * t)) (Rebuilt (i * t))

abbrev pub located : ℕ → ℕ → List ℕ → ℕ → ℕ → ℕ → Outcome Place
located k t es came built i = before (answerable (length es) (any_large es) came built k t i) (given (whereof t es i))

-- the bytes themselves, or the empty part
abbrev pub shown : ℕ → Outcome Place → List ℕ → List ℕ → List ℕ
shown t (given (Arrived s)) xs ys = take t (drop s xs)
shown t (given (Rebuilt s)) xs ys = take t (drop s ys)
shown t (refused n) xs ys = []

-- s bytes on from a place in memory, which is a block and an offset in it
abbrev pub on_from : ℕ × ℕ → ℕ → ℕ × ℕ
on_from a s = (a.0, s + a.1)

-- where the bytes lie, of arrivals that begin at a and a rebuilt store that begins at b: a refusal shows the front of the arrivals
abbrev pub shown_at : Outcome Place → ℕ × ℕ → ℕ × ℕ → ℕ × ℕ
shown_at (given (Arrived s)) a b = on_from a s
shown_at (given (Rebuilt s)) a b = on_from b s
shown_at (refused n) a b = a
