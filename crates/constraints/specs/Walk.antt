-- The walk of Enc[], RFC 6330 section 5.3.5.3: which intermediate symbols a tuple adds up, in the order in which it meets them.
-- Assumes nothing.
use Rattle.std.specs.Prelude.{◌≡◌, List, [], ◌∷◌, ◌++◌, ℕ, zero, suc, ◌+◌, ◌%◌, ◌<◌, ◌≤◌, ltb, length, get_or}
use Rattle.field.specs.Choice.{pick}
use Rattle.headers.specs.Prime.{Prime}
use Rattle.headers.specs.declared.tuple.Tuple.{Tuple}

-- b, and d - 1 places more, each a further than the last, modulo w
unfoldable pub lt_places : ℕ → ℕ → ℕ → ℕ → List ℕ
lt_places w a zero b = []
lt_places w a (suc d) b = b ∷ lt_places w a d ((b + a) % w)

-- b, or where it is not below p the first place below p that steps of a, modulo p1, come to; at most n steps
unfoldable pub land : ℕ → ℕ → ℕ → ℕ → ℕ → ℕ
land p p1 a zero b = b
land p p1 a (suc n) b = pick (ltb b p) b (land p p1 a n ((b + a) % p1))

-- where b lands, and d - 1 places more, each where a step on from the last lands; all past the w places before them
unfoldable pub pi_places : ℕ → ℕ → ℕ → ℕ → ℕ → ℕ → List ℕ
pi_places w p p1 a zero b = []
pi_places w p p1 a (suc d) b = (w + land p p1 a p1 b) ∷ pi_places w p p1 a d ((land p p1 a p1 b + a) % p1)

-- the d LT places, then the d1 PI places
unfoldable pub places : ℕ → ℕ → ℕ → Tuple → List ℕ
places w p p1 t = lt_places w t.a t.d t.b ++ pi_places w p p1 t.a1 t.d1 t.b1

-- what a checked row has made sure of: the theorem `walks` says so
pub record Walks (w p p1 : ℕ) : Type 0 where
  pub w-prime : Prime w
  pub p1-prime : Prime p1
  pub p-low : 3 ≤ p
  pub p-p1 : p ≤ p1
  pub all : w + p ≤ 65535
  pub p1-high : p1 ≤ 65537

-- no number stands twice in a list
abbrev pub Distinct : List ℕ → Type 0
Distinct xs = (i j : ℕ) → i < j → j < length xs → get_or xs i 0 ≡ get_or xs j 0 → ⊥
