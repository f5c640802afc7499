-- Tuple[K', X] of RFC 6330 section 5.3.5.4, over lent random tables.
-- Assumes nothing.
use Rattle.std.specs.Prelude.{◌≡◌, ℕ, ◌+◌, ◌-◌, ◌*◌, ◌%◌, ◌<◌, ◌≤◌, not, List, length, ◌==◌, nat_lt}
use Rattle.field.specs.Choice.{pick}
use Rattle.field.specs.Answer.{Outcome, given, unless, before}
use Rattle.headers.specs.Rand.{random}
use Rattle.headers.specs.Degree.{degree}
use Rattle.headers.specs.Row.{verified, p1_of}
use Rattle.headers.specs.declared.row.Row.{Row}
use Rattle.headers.specs.declared.tuple.Tuple.{Tuple}

-- A: 53591 + 997 J, and 1 more if that is even
abbrev pub factor : ℕ → ℕ
factor j = 53591 + 997 * j + (1 - (53591 + 997 * j) % 2)

-- y
unfoldable pub seed : ℕ → ℕ → ℕ
seed j x = (10267 * (j + 1) + x * factor j) % 4294967296

-- d1
unfoldable pub pi_degree : List ℕ → ℕ → ℕ → ℕ
pi_degree v d x = pick (nat_lt d 4) (2 + random v x 3 2) 2

-- of the tables, J, W, P1 and X
unfoldable pub tuple_of : List ℕ → ℕ → ℕ → ℕ → ℕ → Tuple
tuple_of v j w p1 x =
    record {
      d = degree (random v (seed j x) 0 1048576) w;
      a = 1 + random v (seed j x) 1 (w - 1);
      b = random v (seed j x) 2 w;
      d1 = pi_degree v (degree (random v (seed j x) 0 1048576) w) x;
      a1 = 1 + random v x 4 (p1 - 1);
      b1 = random v x 5 p1;
    }

-- document 01, 'Tuple and indices': the bounds of a tuple
pub record Bounds (w p1 : ℕ) (t : Tuple) : Type 0 where
  pub d-low : 1 ≤ t.d
  pub d-high : t.d ≤ 30
  pub d-w : t.d ≤ w - 2
  pub a-low : 1 ≤ t.a
  pub a-high : t.a < w
  pub b-high : t.b < w
  pub d1-low : 2 ≤ t.d1
  pub d1-high : t.d1 ≤ 3
  pub a1-low : 1 ≤ t.a1
  pub a1-high : t.a1 < p1
  pub b1-high : t.b1 < p1

-- what a checked row and the tables' length have made sure of
pub record Ready (v : List ℕ) (j w p1 : ℕ) : Type 0 where
  pub tables : length v ≡ 1024
  pub j-16 : j < 65536
  pub w-low : 3 ≤ w
  pub p1-low : 2 ≤ p1

-- what the generator answers
abbrev pub tuple_answer : Row → List ℕ → ℕ → Outcome Tuple
tuple_answer r v x = before (verified r) (unless (not (length v == 1024)) 5 (given (tuple_of v r.j r.w (p1_of r) x)))
