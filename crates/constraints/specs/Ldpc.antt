-- The LDPC rows of RFC 6330 section 5.3.3.3, as its procedure adds them up: row r holds what D[r] becomes, and B is W - S.
-- Assumes nothing.
use Rattle.std.specs.Prelude.{◌≡◌, ℕ, ◌+◌, ◌-◌, ◌/◌, ◌%◌, ◌<◌, ◌≤◌, eqb}
use Rattle.field.specs.Choice.{pick}
use Rattle.field.specs.Octet.{plus}
use Rattle.field.specs.Sum.{sum, unit}
use Rattle.headers.specs.Quotient.{ceil}
use Rattle.headers.specs.Row.{p_of}
use Rattle.headers.specs.declared.row.Row.{Row}

-- what D[i] = D[i] + C[j] adds to row r at column c
unfoldable pub adds : ℕ → ℕ → ℕ → ℕ → ℕ
adds r c i j = pick (eqb r i) (unit c j) 0

-- the three values of b in turn k of the first loop: b = k % S, and then twice b = (b + a) % S with a = 1 + floor(k / S)
unfoldable pub one : ℕ → ℕ → ℕ
one s k = k % s

unfoldable pub two : ℕ → ℕ → ℕ
two s k = (one s k + (1 + k / s)) % s

unfoldable pub three : ℕ → ℕ → ℕ
three s k = (two s k + (1 + k / s)) % s

-- what turn k of the first loop adds to row r at column c: C[k] to three rows
abbrev pub turn : ℕ → ℕ → ℕ → ℕ → ℕ
turn s r c k = plus (plus (adds r c (one s k) k) (adds r c (two s k) k)) (adds r c (three s k) k)

-- the same for a turn's own column, c, one of the first B
abbrev pub crossed : ℕ → ℕ → ℕ → ℕ
crossed s r c = plus (plus (unit r (one s c)) (unit r (two s c))) (unit r (three s c))

-- for k below B: D[b] = D[b] + C[k], three times; for k below S: D[k] = D[k] + C[B + k];
-- for k below S: D[k] = D[k] + C[W + a] + C[W + b] with a = k % P, b = (k + 1) % P
unfoldable pub ldpc : ℕ → ℕ → ℕ → ℕ → ℕ → ℕ
ldpc s w p r c =
    plus
    (plus (sum (w - s) (turn s r c)) (sum s (λ k. adds r c k (w - s + k))))
    (sum s (λ k. plus (adds r c k (w + k % p)) (adds r c k (w + (k + 1) % p))))

-- row i, column c, of a row of parameters
abbrev pub ldpc_of : Row → ℕ → ℕ → ℕ
ldpc_of r = ldpc r.s r.w (p_of r)

-- what a checked row has made sure of: the theorem `crosses` says so
pub record Crosses (s w p : ℕ) : Type 0 where
  pub s-low : 3 ≤ s
  pub s-odd : s % 2 ≡ 1
  pub b-low : s < w
  pub b-high : ceil (w - s) s < s
  pub p-low : 3 ≤ p
  pub all : w + p ≤ 65535
