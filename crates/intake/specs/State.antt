-- Document 02, E1 and E14: the words of an intake's state, and which states an accepted begin and the calls after it can have left.
-- Assumes nothing.
use Rattle.std.specs.Prelude.{List, [], ◌∷◌, ◌++◌, ℕ, ◌≤◌, eqb, length, get_or, take, drop, Option, Some, None}
use Rattle.field.specs.Choice.{pick}
use Rattle.headers.specs.Row.{Obeys, l_of}
use Rattle.headers.specs.declared.row.Row.{Row}
use Rattle.intake.specs.Taking.{Placed}

-- ---- what stands where: nine numbers of the row, four more, and 1,024 of the tables. How many packets came is not counted

abbrev pub row_in : List ℕ → Row
row_in st = record {
  kp = get_or st 0 0;
  j = get_or st 1 0;
  s = get_or st 2 0;
  h = get_or st 3 0;
  w = get_or st 4 0;
  l = get_or st 5 0;
  p = get_or st 6 0;
  b = get_or st 7 0;
  p1 = get_or st 8 0;
}

abbrev pub k_in : List ℕ → ℕ
k_in st = get_or st 9 0

abbrev pub t_in : List ℕ → ℕ
t_in st = get_or st 10 0

-- how many rows are held
abbrev pub held_in : List ℕ → ℕ
held_in st = get_or st 11 0

-- 1: the packets alone are taken; 2: the rows that row, tables and K fix, too; 3: no set of symbols fits, which stays until the next accepted begin
abbrev pub mark_in : List ℕ → ℕ
mark_in st = get_or st 12 0

abbrev pub tables_in : List ℕ → List ℕ
tables_in st = take 1024 (drop 13 st)

-- the words that a begin leaves: nothing is held, the packets alone are taken
abbrev pub front : Row → (k t : ℕ) → List ℕ
front r k t = r.kp ∷ r.j ∷ r.s ∷ r.h ∷ r.w ∷ r.l ∷ r.p ∷ r.b ∷ r.p1 ∷ k ∷ t ∷ 0 ∷ 1 ∷ []

abbrev pub words : Row → (k t : ℕ) → List ℕ → List ℕ
words r k t v = front r k t ++ v

-- ---- what they say

abbrev pub l_in : List ℕ → ℕ
l_in st = l_of (row_in st)

abbrev pub progress_in : List ℕ → Option ℕ
progress_in st = pick (eqb (mark_in st) 3) None (Some (held_in st))

-- the words 11 and 12 of a state that stands at q, with the mark m where no clash came
abbrev pub held_by : Option ℕ → ℕ
held_by (Some r) = r
held_by None = 0

abbrev pub mark_by : Option ℕ → ℕ → ℕ
mark_by (Some r) m = m
mark_by None m = 3

abbrev pub noted : Option ℕ → (m : ℕ) → List ℕ
noted q m = held_by q ∷ mark_by q m ∷ []

-- ---- begun

-- the numbers beside the row are within their bounds
pub record Counts (kp k t mark : ℕ) : Type 0 where
  pub k-low : 1 ≤ k
  pub k-high : k ≤ kp
  pub t-low : 1 ≤ t
  pub t-high : t ≤ 65535
  pub mark-low : 1 ≤ mark
  pub mark-high : mark ≤ 3

-- the words of a state that are numbers: a row that keeps its rules, and the others within their bounds
pub record Numbers (st : List ℕ) : Type 0 where
  pub size : 1037 ≤ length st
  pub rules : Obeys (row_in st)
  pub counts : Counts (row_in st).kp (k_in st) (t_in st) (mark_in st)

-- A state, with its pivots, as an accepted begin and what followed can have left it. No other is taken for begun, so that every step after this one look
-- is safe, whatever the stores hold.
pub record Begun (st ps : List ℕ) : Type 0 where
  pub numbers : Numbers st
  pub places : l_in st ≤ length ps
  pub placed : Placed (l_in st) ps (progress_in st)
