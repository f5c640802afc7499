-- The symbols from as many held rows as there are columns.
-- Assumes nothing.
use Rattle.std.specs.Prelude.{◌≡◌, List, ℕ, ◌*◌, ◌≤◌, ◌<◌, take}
use Rattle.linear.specs.System.{System}
use Rattle.linear.specs.Bytes.{OctetSymbols, SolvedBytes}
use Rattle.linear.specs.Rows.{OnlyBelow}
use Rattle.linear.specs.Elimination.{Holds, Stepped}
use Rattle.elimination.specs.Steps.{column}

-- with r rows below L the out store stays as it is; else its first L symbols are the single set that fits whatever system the stores hold, if they
-- stood as an elimination leaves them
pub record Settles (L T r : ℕ) (ps a d o o₁ : List ℕ) : Type 0 where
  pub past : OnlyBelow (L * T) o o₁
  pub short : r < L → o₁ ≡ o
  pub solved : L ≤ r → 0 < T → Stepped L r (column ps) a d → (S : System ℕ) → OctetSymbols T S → Holds r L T S a d → SolvedBytes L T S (take (L * T) o₁)
