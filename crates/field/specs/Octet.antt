-- Octets, as RFC 6330 section 5.7 has them: numbers below 256, added by exclusive or and multiplied as polynomials modulo
-- x^8 + x^4 + x^3 + x^2 + 1 (285). No table is named here: that products go by the tables of 5.7.3 and 5.7.4 is a theorem.
-- Assumes nothing.
use Rattle.std.specs.Prelude.{List, [], ◌∷◌, ℕ, zero, suc, ◌*◌, ◌/◌, ◌%◌, ltb, eqb}
use Rattle.std.specs.Int.Bits.{bit_xor}
use Rattle.field.specs.Choice.{pick}

-- RFC 6330, 5.7.2: the sum, and the difference, of two octets
abbrev pub plus : ℕ → ℕ → ℕ
plus = bit_xor

-- twice an octet, with 285 taken off by exclusive or when that reaches 256
unfoldable pub doubled : ℕ → ℕ
doubled a = pick (ltb (a * 2) 256) (a * 2) (plus (a * 2) 285)

-- RFC 6330, 5.7.2: alpha to the power i, where alpha is 2; entry 0 is 1, the next is twice the last (document 01, 'Octets')
unfoldable pub power : ℕ → ℕ
power zero = 1
power (suc i) = doubled (power i)

-- n powers, from the power x on, as a list
unfoldable pub powers : ℕ → ℕ → List ℕ
powers zero x = []
powers (suc n) x = x ∷ powers n (doubled x)

-- the 255 that differ: every octet but 0
unfoldable pub cycle : List ℕ
cycle = powers 255 1

-- the place of a in a list whose first place is i; 0 if it is not there
unfoldable pub place : ℕ → ℕ → List ℕ → ℕ
place a i [] = 0
place a i (x ∷ xs) = let further = place a (suc i) xs in pick (eqb x a) i further

-- RFC 6330, 5.7.4: the exponent at which the power of alpha is a; 0 for 0, which is no power
unfoldable pub logarithm : ℕ → ℕ
logarithm a = place a 0 cycle

-- a once for each of the n low bits of b that is set, doubled as often as the bit's place says
unfoldable pub copies : ℕ → ℕ → ℕ → ℕ
copies zero a b = 0
copies (suc n) a b = plus (a * (b % 2)) (doubled (copies n a (b / 2)))

-- RFC 6330, 5.7.2: the product; of a number past 255 the low eight bits count, so that the laws need no bounds
unfoldable pub times : ℕ → ℕ → ℕ
times a b = copies 8 (a % 256) b

-- a · a² · a⁴ · .., n factors
unfoldable pub squares : ℕ → ℕ → ℕ
squares zero a = 1
squares (suc n) a = times a (squares n (times a a))

-- a to the power 254, which is a² · a⁴ · .. · a¹²⁸: the octet whose product with a is 1, where a is not 0
unfoldable pub inverse : ℕ → ℕ
inverse a = squares 7 (times a a)

-- RFC 6330, 5.7.2: the quotient
unfoldable pub over : ℕ → ℕ → ℕ
over a b = times a (inverse b)
