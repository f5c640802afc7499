-- Runs of octets, place by place, and what a call leaves in the memory that it was lent.
-- Assumes nothing.
use Rattle.std.specs.Prelude.{◌≡◌, Bool, true, List, ◌⊎◌, ◌≢◌, ℕ, zero, suc, ◌+◌, ◌≤◌, ◌<◌, eqb, length, get_or, take, drop}
use Rattle.field.specs.Choice.{both}
use Rattle.field.specs.Octet.{plus, times}

-- ys is xs, but that the n places from `at` on hold f 0, f 1, .. : the one word of all layers for memory that was written
pub record Written (f : ℕ → ℕ) (xs ys : List ℕ) (at n : ℕ) : Type 0 where
  pub size : length ys ≡ length xs
  pub part : (k : ℕ) → k < n → get_or ys (at + k) 0 ≡ f k
  pub low : (k : ℕ) → k < at → get_or ys k 0 ≡ get_or xs k 0
  pub high : (k : ℕ) → at + n ≤ k → get_or ys k 0 ≡ get_or xs k 0

-- the n places from `from` on
abbrev pub part : List ℕ → ℕ → ℕ → List ℕ
part xs from n = take n (drop from xs)

-- two parts of n places lie inside, and do not meet
pub record Apart (len n to from : ℕ) : Type 0 where
  pub to_in : to + n ≤ len
  pub from_in : from + n ≤ len
  pub apart : (to + n ≤ from) ⊎ (from + n ≤ to)

-- RFC 6330, 5.7.5: the octets of a sum, of a multiple, and of a sum with a multiple
abbrev pub added : List ℕ → ℕ → List ℕ → ℕ → ℕ
added d at s k = plus (get_or d (at + k) 0) (get_or s k 0)

abbrev pub scaled : ℕ → List ℕ → ℕ → ℕ
scaled c d k = times c (get_or d k 0)

abbrev pub fused : List ℕ → ℕ → ℕ → List ℕ → ℕ → ℕ
fused d at c s k = plus (get_or d (at + k) 0) (times c (get_or s k 0))

-- document 02, E5: whether the n octets f 0, f 1, .. are all 0; where there is none, they are
unfoldable pub all_zero : (ℕ → ℕ) → ℕ → Bool
all_zero f zero = true
all_zero f (suc n) = both (all_zero f n) (eqb (f n) 0)

-- whether the n places of xs from `at` on hold only 0
abbrev pub zero_from : List ℕ → ℕ → ℕ → Bool
zero_from xs at n = all_zero (λ k. get_or xs (at + k) 0) n

-- no octet of xs is larger than m
abbrev pub AtMost : ℕ → List ℕ → Type 0
AtMost m xs = (k : ℕ) → k < length xs → get_or xs k 0 ≤ m

-- the octets of xs from `from` on, before x, are 0
abbrev pub Blank : List ℕ → ℕ → ℕ → Type 0
Blank xs from x = (k : ℕ) → k < x → from ≤ k → get_or xs k 0 ≡ 0

-- x is the first place from `from` on that is not 0, or it is `to`
pub record FirstOther (xs : List ℕ) (from to x : ℕ) : Type 0 where
  pub least : from ≤ x
  pub most : x ≤ to
  pub zeros : Blank xs from x
  pub other : x < to → get_or xs x 0 ≢ 0
