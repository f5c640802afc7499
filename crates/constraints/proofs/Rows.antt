-- The walk of a tuple: how many places it has and, for a checked row, that they are within L and that it meets none twice. The row of an ISI has ones
-- at them, and 0 elsewhere.
-- Assumes nothing.
use mathlib.Core.Path.{◌≡◌}
use mathlib.Core.List.{List}
use Prim.Native.Nat.{ℕ, ◌+◌, ◌<◌}
use native.Mathlib.Omega.{arith}
use lib.ListN.{length, get_or}
use Rattle.headers.specs.Row.{Obeys, l_of, p_of, p1_of}
use Rattle.headers.specs.Tuples.{Bounds, tuple_of}
use Rattle.headers.specs.declared.row.Row.{Row}
use Rattle.headers.specs.declared.tuple.Tuple.{Tuple}
use Rattle.headers.proofs.Accepted.{l-is, ready}
use Rattle.headers.proofs.Tuples.{bounded}
use Rattle.constraints.specs.Walk.{Distinct}
use Rattle.constraints.specs.Answers.{places_of}
use Rattle.constraints.specs.Encoding.{enc, enc_of}
use Rattle.constraints.proofs.Accepted.{walks}
use Rattle.constraints.proofs.Distinct as walk
use Rattle.constraints.proofs.Lists.{places-length}
use Rattle.constraints.proofs.Marks.{visits-at, visits-off}

-- ---- the walk of any tuple

pub places_count : (r : Row) (t : Tuple) → length (places_of r t) ≡ t.d + t.d1
places_count r = places-length r.w (p_of r) (p1_of r)

-- and of one within its bounds
module _ {r : Row} (o : Obeys r) {t : Tuple} (b : Bounds r.w (p1_of r) t) where
  pub places-below : (k : ℕ) → k < length (places_of r t) → get_or (places_of r t) k 0 < l_of r
  places-below k h = omega (arith, walk.places-lt _ _ _ t (walks o) b k h, l-is o)

  pub places-differ : Distinct (places_of r t)
  places-differ = walk.places-distinct _ _ _ t (walks o) b

-- ---- the row of an ISI

abbrev pub tuple_in : List ℕ → Row → ℕ → Tuple
tuple_in v r x = tuple_of v r.j r.w (p1_of r) x

module _ {r : Row} (o : Obeys r) (v : List ℕ) (e : length v ≡ 1024) (x : ℕ) where
  -- ones at the places
  pub enc-at : (k : ℕ) → k < length (places_of r (tuple_in v r x)) → enc_of v r x (get_or (places_of r (tuple_in v r x)) k 0) ≡ 1
  unfolding enc
  enc-at k h = visits-at (places_of r (tuple_in v r x)) (places-differ o (bounded (ready o e) x)) k h

-- and 0 elsewhere
pub enc-off : (v : List ℕ) (r : Row) (x c : ℕ)
    → ((k : ℕ) → k < length (places_of r (tuple_in v r x)) → c ≡ get_or (places_of r (tuple_in v r x)) k 0 → ⊥)
    → enc_of v r x c ≡ 0
unfolding enc
enc-off v r x c n = visits-off (places_of r (tuple_in v r x)) c n
