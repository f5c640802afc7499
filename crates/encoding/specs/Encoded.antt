-- The encoding of one symbol: RFC 6330 section 5.3.5.3; document 01, 'Solver and symbols'.
-- Assumes nothing.
use Rattle.std.specs.Prelude.{◌≡◌, Result, not, List, ℕ, ◌+◌, ◌*◌, ◌<◌, ◌≤◌, eqb, leb, ltb, length, get_or}
use Rattle.field.specs.Answer.{Outcome, Left, before, outcome, given, unless}
use Rattle.field.specs.Octet.{plus, times}
use Rattle.field.specs.Runs.{Written}
use Rattle.field.specs.Sum.{sum}
use Rattle.headers.specs.Row.{verified, between, l_of}
use Rattle.headers.specs.Shift.{shifted}
use Rattle.field.specs.declared.refusal.Refusal.{Refusal}
use Rattle.headers.specs.declared.row.Row.{Row}
use Rattle.constraints.specs.Encoding.{enc_of, visits}
use Rattle.linear.specs.Bytes.{cell}

-- octet i of the symbol whose row is f, from L symbols of T octets that stand in C, symbol c at c * T
abbrev pub combined : ℕ → List ℕ → ℕ → (ℕ → ℕ) → ℕ → ℕ
combined t C l f i = sum l (λ c. times (f c) (cell t C c i))

-- octet i of the symbol of the ISI x
abbrev pub encoded : List ℕ → Row → ℕ → ℕ → List ℕ → ℕ → ℕ
encoded v r x t C = combined t C (l_of r) (enc_of v r x)

-- ---- may a symbol be encoded?

-- a row that breaks its rules; tables that are not 1,024 numbers; a K outside 1..K', an ESI of 2^24 or more; T = 0; intermediates below
-- L * T octets, out below T. Nothing for a long walk (document 02, E13): no ISI has more than the 32 places of the working list (`walk-high`)
abbrev pub allowed : Row → ℕ → ℕ → ℕ → ℕ → ℕ → ℕ → Outcome (Unit {0})
allowed r tables k t esi have room =
    before (verified r) (unless (not (eqb tables 1024)) 5 (unless (not (between 1 k r.kp)) 9 (unless (leb 16777216 esi) 9
    (unless (eqb t 0) 10 (unless (ltb have (l_of r * t)) 8 (unless (ltb room t) 8 (given tt)))))))

-- the symbol at the front of the store, or the store as it was
pub record Encodes (v : List ℕ) (r : Row) (k t esi : ℕ) (C xs ys : List ℕ) (a : Result (Unit {0}) Refusal) : Type 0 where
  pub answer : outcome a ≡ allowed r (length v) k t esi (length C) (length xs)
  pub memory : Left (outcome a) xs ys (Written (encoded v r (shifted esi k r.kp) t C) xs ys 0 t)

-- ---- what the functions beneath leave

-- the sum of the symbols at the places of a walk, by the walk's row
abbrev pub walked : ℕ → List ℕ → ℕ → List ℕ → ℕ → ℕ
walked t C l ps = combined t C l (visits ps)

-- octets of d with the symbol at p added
abbrev pub symbol_added : ℕ → List ℕ → List ℕ → ℕ → ℕ → ℕ
symbol_added t d C p i = plus (get_or d i 0) (cell t C p i)

-- with those at the first n places of a list added
abbrev pub symbols_added : ℕ → List ℕ → List ℕ → List ℕ → ℕ → ℕ → ℕ
symbols_added t d C ps n i = plus (get_or d i 0) (sum n (λ k. cell t C (get_or ps k 0) i))

-- the first n numbers of a list are places of symbols in C
pub record Addable (t : ℕ) (d C ps : List ℕ) (n : ℕ) : Type 0 where
  pub read : n ≤ length ps
  pub inside : (k : ℕ) → k < n → get_or ps k 0 * t + t ≤ length C
  pub room : t ≤ length d
