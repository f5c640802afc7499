-- The HDPC rows of RFC 6330 section 5.3.3.3: MT times GAMMA, then the identity. n is K' + S.
-- Assumes nothing.
use Rattle.std.specs.Prelude.{Bool, true, false, List, ℕ, ◌+◌, ◌-◌, ◌%◌, eqb, leb, ltb}
use Rattle.field.specs.Choice.{pick}
use Rattle.field.specs.Octet.{times, power}
use Rattle.field.specs.Sum.{sum, unit}
use Rattle.headers.specs.Rand.{random}
use Rattle.headers.specs.declared.row.Row.{Row}

abbrev pub either : Bool → Bool → Bool
either true b = true
either false b = b

-- the two rows that have a one in column j of MT: i = Rand[j+1, 6, H], and i = (Rand[j+1, 6, H] + Rand[j+1, 7, H-1] + 1) % H
unfoldable pub first : List ℕ → ℕ → ℕ → ℕ
first v h j = random v (j + 1) 6 h

unfoldable pub second : List ℕ → ℕ → ℕ → ℕ
second v h j = (random v (j + 1) 6 h + random v (j + 1) 7 (h - 1) + 1) % h

-- MT: H rows, n columns; the last column holds the powers of alpha
unfoldable pub mt : List ℕ → ℕ → ℕ → ℕ → ℕ → ℕ
mt v n h i j = pick (ltb j (n - 1)) (pick (either (eqb i (first v h j)) (eqb i (second v h j))) 1 0) (power i)

-- GAMMA: n rows, n columns
unfoldable pub gamma : ℕ → ℕ → ℕ
gamma i j = pick (leb j i) (power (i - j)) 0

-- G_HDPC and I_H: H rows, n + H columns
unfoldable pub hdpc : List ℕ → ℕ → ℕ → ℕ → ℕ → ℕ
hdpc v n h i c = pick (ltb c n) (sum n (λ k. times (mt v n h i k) (gamma k c))) (unit i (c - n))

-- row i, column c, of a row of parameters
abbrev pub hdpc_of : List ℕ → Row → ℕ → ℕ → ℕ
hdpc_of v r = hdpc v (r.kp + r.s) r.h
