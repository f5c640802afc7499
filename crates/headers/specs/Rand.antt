-- Rand[y, i, m] of RFC 6330 section 5.3.5.1, over the tables V0, V1, V2, V3 of 5.5 in one list.
-- Assumes nothing.
use Rattle.std.specs.Prelude.{ℕ, ◌+◌, ◌*◌, ◌/◌, ◌%◌, not, List, length, ◌==◌, bit_xor, slice_index}
use Rattle.field.specs.Answer.{Outcome, given, unless}

-- the entry of table `part` at a one-byte sum, which wraps at 256
abbrev pub entry_of : List ℕ → ℕ → ℕ → ℕ → ℕ
entry_of v part byte i = slice_index v (part * 256 + (byte + i) % 256)

-- the four entries, of the lowest byte of y in V0
abbrev pub mixed : List ℕ → ℕ → ℕ → ℕ
mixed v y i =
    bit_xor (bit_xor (bit_xor (entry_of v 0 (y % 256) i) (entry_of v 1 (y / 256 % 256) i)) (entry_of v 2 (y / 65536 % 256) i))
    (entry_of v 3 (y / 16777216) i)

unfoldable pub random : List ℕ → ℕ → ℕ → ℕ → ℕ
random v y i m = mixed v y i % m

-- what a call of rand answers: tables that are not 1,024 numbers, then m = 0
abbrev pub rand_answer : List ℕ → ℕ → ℕ → ℕ → Outcome ℕ
rand_answer v y i m = unless (not (length v == 1024)) 5 (unless (m == 0) 2 (given (random v y i m)))
