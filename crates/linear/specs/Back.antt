-- The way back from r held rows, over the symbols alone: the last row first, each settles the symbol of its pivot. The rows stand in a, of width
-- L, their symbols in d, and the symbols that are settled in o, both of width T.
-- Assumes nothing.
use Rattle.std.specs.Prelude.{◌≡◌, ◌≢◌, List, ℕ, ◌≤◌, ◌<◌, ltb}
use Rattle.field.specs.Choice.{pick}
use Rattle.field.specs.Octet.{plus, times}
use Rattle.field.specs.Sum.{sum}
use Rattle.linear.specs.Bytes.{cell}

-- x where c is past p, else 0
unfoldable pub past : (p c x : ℕ) → ℕ
past p c x = pick (ltb p c) x 0

-- octet t of what row q asks of symbol c, if that is past column p
abbrev pub asked : (L T q p t : ℕ) (a o : List ℕ) → ℕ → ℕ
asked L T q p t a o c = past p c (times (cell L a q c) (cell T o c t))

-- symbol p is now that of row q with what the row asks of the symbols past p and below n, and no other symbol changed
pub record Brought (L T n q p : ℕ) (a d o o₁ : List ℕ) : Type 0 where
  pub own : (t : ℕ) → t < T → cell T o₁ p t ≡ plus (cell T d q t) (sum n (asked L T q p t a o))
  pub others : (c : ℕ) → c ≢ p → (t : ℕ) → t < T → cell T o₁ c t ≡ cell T o c t

-- the symbols meet the r held equations from the q-th on
pub record MetFrom (L T q r : ℕ) (a d o : List ℕ) : Type 0 where
  pub at : (k : ℕ) → q ≤ k → k < r → (t : ℕ) → t < T → sum L (λ c. times (cell L a k c) (cell T o c t)) ≡ cell T d k t
