-- The parameter row (RFC 6330 section 5.6), the numbers that follow from it (5.3.3.3), and its rules (document 01, 'Parameter row'; document 02, E2 and E7).
-- Of a record K', J, S, H and W are given; L, P, B and P1 are said here of these five, and stand in it too.
-- Assumes nothing.
use Rattle.std.specs.Prelude.{◌≡◌, ℕ, suc, ◌+◌, ◌-◌, ◌%◌, ◌<◌, ◌≤◌, Bool, true, not, Result, Ok, Err, List, [], ◌∷◌, ◌==◌, nat_le, nat_lt}
use Rattle.field.specs.Choice.{both}
use Rattle.field.specs.Answer.{Outcome, given, refused, coded, code_of, place_of, unless, before}
use Rattle.field.specs.declared.refusal.Part.{Part}
use Rattle.field.specs.declared.refusal.Part.TheVariants as Parts
use Rattle.field.specs.declared.refusal.Refusal.TheVariants as Why
use Rattle.headers.specs.Prime.{Prime, prime, first_prime}
use Rattle.headers.specs.Quotient.{ceil}
use Rattle.headers.specs.declared.row.Row.{Row}
use Rattle.headers.specs.declared.beneath.row.Numbers.{Numbers}

-- L = K' + S + H
abbrev pub l_of : Row → ℕ
l_of r = r.kp + r.s + r.h

-- P = L - W; where that would be negative it is 0 here, which breaks the same rule
abbrev pub p_of : Row → ℕ
p_of r = l_of r - r.w

-- B = W - S, likewise
abbrev pub b_of : Row → ℕ
b_of r = r.w - r.s

-- P1: the smallest prime not below P
abbrev pub p1_of : Row → ℕ
p1_of r = first_prime (p_of r)

-- ceil(B/S)
abbrev pub bands : Row → ℕ
bands r = ceil (b_of r) r.s

-- K', J, S, H, W: each below 65,536; K' 1..56,403; S odd, at least 3; H 2..255
pub record Ranges (kp j s h w : ℕ) : Type 0 where
  pub kp-16 : kp < 65536
  pub j-16 : j < 65536
  pub s-16 : s < 65536
  pub h-16 : h < 65536
  pub w-16 : w < 65536
  pub kp-low : 1 ≤ kp
  pub kp-high : kp ≤ 56403
  pub s-odd : s % 2 ≡ 1
  pub s-low : 3 ≤ s
  pub h-low : 2 ≤ h
  pub h-high : h ≤ 255

-- the four numbers that a record carries are those that follow from its five
pub record Derived (r : Row) : Type 0 where
  pub l-fits : r.l ≡ l_of r
  pub p-fits : r.p ≡ p_of r
  pub b-fits : r.b ≡ b_of r
  pub p1-fits : r.p1 ≡ p1_of r

-- the rules as a fact: nine of the five numbers, and the tenth of the other four
pub record Obeys (r : Row) : Type 0 where
  pub ranges : Ranges r.kp r.j r.s r.h r.w
  pub w-prime : Prime r.w
  pub b-low : 1 ≤ b_of r
  pub p-low : 3 ≤ p_of r
  pub b-high : bands r < r.s
  pub l-high : l_of r ≤ 65535
  pub derived : Derived r

-- low <= n <= high, as a test
abbrev pub between : ℕ → ℕ → ℕ → Bool
between low n high = both (nat_le low n) (nat_le n high)

abbrev pub sixteen : Row → Bool
sixteen r = both (nat_lt r.kp 65536) (both (nat_lt r.j 65536) (both (nat_lt r.s 65536) (both (nat_lt r.h 65536) (nat_lt r.w 65536))))

abbrev pub fitting : Row → Bool
fitting r = both (r.l == l_of r) (both (r.p == p_of r) (both (r.b == b_of r) (r.p1 == p1_of r)))

-- the same rules as tests, in document 01's order; the theorem `obeys-tells` says that they decide the fact
abbrev pub rules : Row → List Bool
rules r =
    sixteen r ∷ between 1 r.kp 56403 ∷ both (r.s % 2 == 1) (nat_le 3 r.s) ∷ between 2 r.h 255 ∷ prime r.w
    ∷ nat_le 1 (b_of r) ∷ nat_le 3 (p_of r) ∷ nat_lt (bands r) r.s ∷ nat_le (l_of r) 65535 ∷ fitting r ∷ []

abbrev pub all : List Bool → Bool
all [] = true
all (b ∷ bs) = both b (all bs)

unfoldable pub obeys : Row → Bool
obeys r = all (rules r)

-- document 02, E7: the first rule that breaks refuses, by 4 and its place among the rules
abbrev pub walk : ℕ → List Bool → Outcome (Unit {0})
walk place [] = given tt
walk place (b ∷ bs) = unless (not b) (coded 4 place) (walk (suc place) bs)

-- a record is taken, or refused with the part of its first broken rule; `as_before` says that it is taken where it `obeys`, as it was before E7
unfoldable pub verified : Row → Outcome (Unit {0})
verified r = walk 1 (rules r)

abbrev pub Refuses : Row → Part → Type 0
Refuses r part = verified r ≡ refused (code_of (Why.BadRow part))

-- the rule of each part, as a fact
abbrev pub Rule : Row → Part → Type 0
Rule r Parts.Wide = (r.kp < 65536) × ((r.j < 65536) × ((r.s < 65536) × ((r.h < 65536) × (r.w < 65536))))
Rule r Parts.Kp = (1 ≤ r.kp) × (r.kp ≤ 56403)
Rule r Parts.S = (r.s % 2 ≡ 1) × (3 ≤ r.s)
Rule r Parts.H = (2 ≤ r.h) × (r.h ≤ 255)
Rule r Parts.W = Prime r.w
Rule r Parts.B = 1 ≤ b_of r
Rule r Parts.P = 3 ≤ p_of r
Rule r Parts.Ldpc = bands r < r.s
Rule r Parts.L = l_of r ≤ 65535
Rule r Parts.Derived = Derived r

-- the rule of a part is the first that breaks: those before it hold, and it does not; `first-broken` says that it is the part of a refusal
pub record FirstBroken (r : Row) (part : Part) : Type 0 where
  pub earlier : (other : Part) → place_of other < place_of part → Rule r other
  pub breaks : Rule r part → ⊥

-- the record with the four numbers that follow from its five, whatever stood in their places
abbrev pub completed : Row → Row
completed r = record { kp = r.kp; j = r.j; s = r.s; h = r.h; w = r.w; l = l_of r; p = p_of r; b = b_of r; p1 = p1_of r }

-- the record of K', J, S, H and W
abbrev pub row_of : ℕ → ℕ → ℕ → ℕ → ℕ → Row
row_of kp j s h w = completed (record { kp = kp; j = j; s = s; h = h; w = w; l = 0; p = 0; b = 0; p1 = 0 })

-- the record, where it keeps the rules
abbrev pub checked : Row → Outcome Row
checked r = before (verified r) (given r)

-- what follows from five numbers: with them it is a record that keeps the rules; or the first rule that they break
abbrev pub Derives : ℕ → ℕ → ℕ → ℕ → ℕ → Result Numbers Part → Type 0
Derives kp j s h w (Ok n) = Obeys (record { kp = kp; j = j; s = s; h = h; w = w; l = n.l; p = n.p; b = n.b; p1 = n.p1 })
Derives kp j s h w (Err part) = Refuses (row_of kp j s h w) part

-- the same of the first four parts
abbrev pub Ranged : ℕ → ℕ → ℕ → ℕ → ℕ → Result (Unit {0}) Part → Type 0
Ranged kp j s h w (Ok _) = Ranges kp j s h w
Ranged kp j s h w (Err part) = Refuses (row_of kp j s h w) part

-- what the check answers
abbrev pub row_checked : ℕ → ℕ → ℕ → ℕ → ℕ → Outcome Row
row_checked kp j s h w = checked (row_of kp j s h w)
