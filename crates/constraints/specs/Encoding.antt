-- The row of an internal symbol id, as the sum of RFC 6330 section 5.3.5.3: what it holds at a column, not how it is stored.
-- Assumes nothing.
use Rattle.std.specs.Prelude.{◌≡◌, List, ℕ, ◌+◌, ◌<◌, ◌≤◌, length, get_or}
use Rattle.field.specs.Sum.{sum, unit}
use Rattle.headers.specs.Row.{p_of, p1_of}
use Rattle.headers.specs.Tuples.{tuple_of}
use Rattle.headers.specs.declared.row.Row.{Row}
use Rattle.constraints.specs.Walk.{places}

-- result = result + C[place], for each place of a walk: how often c stands in it, as a sum
unfoldable pub visits : List ℕ → ℕ → ℕ
visits ps c = sum (length ps) (λ k. unit c (get_or ps k 0))

-- column c of the row of the ISI x: of the tables, J, W, P and P1
unfoldable pub enc : List ℕ → ℕ → ℕ → ℕ → ℕ → ℕ → ℕ → ℕ
enc v j w p p1 x c = visits (places w p p1 (tuple_of v j w p1 x)) c

-- the same, of a row
abbrev pub enc_of : List ℕ → Row → ℕ → ℕ → ℕ
enc_of v r = enc v r.j r.w (p_of r) (p1_of r)

-- the first n numbers of a list are places of a blank run of l, and no two are the same
pub record Markable (list xs : List ℕ) (at n l : ℕ) : Type 0 where
  pub read : n ≤ length list
  pub apart : (i j : ℕ) → i < j → j < n → get_or list i 0 ≡ get_or list j 0 → ⊥
  pub inside : (k : ℕ) → k < n → get_or list k 0 < l
  pub blank : (c : ℕ) → c < l → get_or xs (at + c) 0 ≡ 0
  pub room : at + l ≤ length xs
