-- Numbers in bytes, high byte first, and bytes laid into a lent store.
-- Assumes nothing.
use Rattle.std.specs.Prelude.{ℕ, zero, suc, ◌+◌, ◌*◌, ◌/◌, ◌%◌, List, [], ◌∷◌, ◌++◌, length, slice_index}
use Rattle.field.specs.Runs.{Written}

-- the n low bytes of x
abbrev pub in_bytes : ℕ → ℕ → List ℕ
in_bytes zero x = []
in_bytes (suc n) x = in_bytes n (x / 256) ++ (x % 256 ∷ [])

-- the number that the n bytes of s from `at` on make
abbrev pub number : List ℕ → ℕ → ℕ → ℕ
number s at zero = 0
number s at (suc n) = number s at n * 256 + slice_index s (at + n)

-- ys is xs, but that from `at` on it holds the bytes bs
abbrev pub Laid : List ℕ → List ℕ → List ℕ → ℕ → Type 0
Laid bs xs ys at = Written (λ k. slice_index bs k) xs ys at (length bs)
