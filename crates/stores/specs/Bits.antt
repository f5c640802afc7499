-- Bits of words, and the columns of a row of bits (document 01, 'Matrices and slab').
-- Assumes nothing.
use Rattle.std.specs.Prelude.{List, ℕ, ◌+◌, ◌*◌, ◌/◌, ◌%◌, ◌^◌, eqb, ltb, get_or}
use Rattle.std.specs.Int.Bits.{bit_xor}
use Rattle.field.specs.Choice.{pick}

-- bit k of a word
abbrev pub bit : ℕ → ℕ → ℕ
bit w k = w / 2 ^ k % 2

-- column c of the row that begins at word `at`
abbrev pub bit_at : List ℕ → ℕ → ℕ → ℕ
bit_at ws at c = bit (get_or ws (at + c / 64) 0) (c % 64)

-- the word with bit b made v: flipped where it is not v yet
unfoldable pub with_bit : ℕ → ℕ → ℕ → ℕ
with_bit w b v = bit_xor w (bit_xor (bit w b) v * 2 ^ b)

-- word o of a row, when its column c has become v
abbrev pub moved : ℕ → ℕ → ℕ → ℕ → ℕ
moved o c v w = pick (eqb o (c / 64)) (with_bit w (c % 64) v) w

-- word o of the row at `at`, when its columns a and b have changed places
unfoldable pub crossing : List ℕ → ℕ → ℕ → ℕ → ℕ → ℕ
crossing ws at a b o = moved o b (bit_at ws at a) (moved o a (bit_at ws at b) (get_or ws (at + o) 0))

-- word k of rows of n words, when columns a and b have changed places from row `start` on
abbrev pub crossed_from : List ℕ → ℕ → ℕ → ℕ → ℕ → ℕ → ℕ
crossed_from ws n a b start k = pick (ltb (k / n) start) (get_or ws k 0) (crossing ws (k / n * n) a b (k % n))
