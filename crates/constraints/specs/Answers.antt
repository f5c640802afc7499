-- What the public calls answer and leave: enc_indices, and the HDPC rows (document 01, 'Tuple and indices', 'Matrices and slab').
-- Assumes nothing.
use Rattle.std.specs.Prelude.{◌≡◌, Bool, Result, not, List, ℕ, ◌+◌, ◌-◌, ◌*◌, eqb, leb, ltb, length}
use Rattle.field.specs.Answer.{Outcome, Left, outcome, given, unless, before}
use Rattle.field.specs.Choice.{both}
use Rattle.field.specs.Runs.{Written}
use Rattle.headers.specs.Bytes.{Laid}
use Rattle.headers.specs.Row.{verified, between, l_of, p_of, p1_of}
use Rattle.field.specs.declared.refusal.Refusal.{Refusal}
use Rattle.headers.specs.declared.row.Row.{Row}
use Rattle.headers.specs.declared.tuple.Tuple.{Tuple}
use Rattle.constraints.specs.Grid.{cells}
use Rattle.constraints.specs.Hdpc.{hdpc_of}
use Rattle.constraints.specs.Walk.{places}

-- low <= n < high, as a test
abbrev pub from : ℕ → ℕ → ℕ → Bool
from low n high = both (leb low n) (ltb n high)

-- the bounds of a tuple as tests; the theorem `bounded_tells` says that they decide `Bounds`
unfoldable pub bounded : ℕ → ℕ → Tuple → Bool
bounded w p1 t =
    both (between 1 t.d 30) (both (leb t.d (w - 2)) (both (from 1 t.a w) (both (ltb t.b w)
    (both (between 2 t.d1 3) (both (from 1 t.a1 p1) (ltb t.b1 p1))))))

-- the places of a tuple, of a row
abbrev pub places_of : Row → Tuple → List ℕ
places_of r = places r.w (p_of r) (p1_of r)

-- how many places enc_indices writes: a row that breaks its rules, a tuple outside its bounds, too short a list
abbrev pub indices : Row → Tuple → ℕ → Outcome ℕ
indices r t room =
    before (verified r) (unless (not (bounded r.w (p1_of r) t)) 2 (unless (ltb room (t.d + t.d1)) 8 (given (t.d + t.d1))))

-- the places at the front of the list, or the list as it was
pub record Walked (r : Row) (t : Tuple) (xs ys : List ℕ) (a : Result ℕ Refusal) : Type 0 where
  pub answer : outcome a ≡ indices r t (length xs)
  pub memory : Left (outcome a) xs ys (Laid (places_of r t) xs ys 0)

-- may the HDPC rows be written? A row that breaks its rules, tables that are not 1,024 numbers, too short a store
abbrev pub hdpc_room : Row → ℕ → ℕ → Outcome (Unit {0})
hdpc_room r tables room =
    before (verified r) (unless (not (eqb tables 1024)) 5 (unless (ltb room (r.h * l_of r)) 8 (given tt)))

-- H rows of L octets at the front of the store, or the store as it was
pub record HdpcRows (v : List ℕ) (r : Row) (xs ys : List ℕ) (a : Result (Unit {0}) Refusal) : Type 0 where
  pub answer : outcome a ≡ hdpc_room r (length v) (length xs)
  pub memory : Left (outcome a) xs ys (Written (cells (l_of r) (hdpc_of v r)) xs ys 0 (r.h * l_of r))
