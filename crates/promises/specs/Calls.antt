-- Demand 3 in the words of a caller: a call of `solve`, its arrivals, and the sets of intermediate symbols that fit. Document 02, E14: the same of any number
-- of arrivals.
-- Assumes nothing.
use Rattle.std.specs.Prelude.{◌≡◌, ◌≢◌, List, [], ℕ, ◌*◌, ◌≤◌, ◌<◌, length, get_or, take, Result, Ok}
use Rattle.field.specs.declared.refusal.Refusal.{Refusal}
use Rattle.headers.specs.Row.{Obeys, l_of}
use Rattle.headers.specs.Shift.{shifted}
use Rattle.headers.specs.declared.row.Row.{Row}
use Rattle.constraints.specs.Hdpc.{hdpc_of}
use Rattle.constraints.specs.Ldpc.{ldpc_of}
use Rattle.linear.specs.Bytes.{cell, Block, in_octets}
use Rattle.linear.specs.Index.{Col, cut}
use Rattle.linear.specs.Span.{InSpan}
use Rattle.linear.specs.Independent.{MostIndependent}
use Rattle.linear.specs.Octets.{octets, oct}
use Rattle.encoding.specs.Encoded.{Encodes, combined, encoded}
use Rattle.elimination.specs.Verdict.{Means}
use Rattle.elimination.specs.declared.verdict.Verdict.{Verdict}
use Rattle.elimination.specs.declared.verdict.Verdict.TheVariants.{Solved, Contradiction, Open}
use Rattle.solver.specs.System.{Solves, equations, sent_row, system_of}

-- a call of `solve`: ESIs es, symbols xs, the out store o before and o₁ after, and the answer; whatever the two scratch stores were
pub record Call (r : Row) (v : List ℕ) (k t : ℕ) (es xs o o₁ : List ℕ) (answer : Result Verdict Refusal) : Type 0 where
  pub rows : List ℕ
  pub values : List ℕ
  pub rows-after : List ℕ
  pub values-after : List ℕ
  pub contract : Solves r v k t es xs rows values o rows-after values-after o₁ answer

-- the set that an out store holds: its first L·T octets
abbrev pub set_in : Row → ℕ → List ℕ → List ℕ
set_in r t o = take (l_of r * t) o

-- ---- the limit on n lifted (document 02, E14)

-- what a call that is not refused has made sure of, of row, tables, K, T, ESIs and symbols, but for their number
pub record Receivable (r : Row) (v : List ℕ) (k t : ℕ) (es xs : List ℕ) : Type 0 where
  pub rules : Obeys r
  pub tables : length v ≡ 1024
  pub k-low : 1 ≤ k
  pub k-high : k ≤ r.kp
  pub ids : (i : ℕ) → i < length es → get_or es i 0 < 16777216
  pub t-low : 0 < t
  pub all : length xs ≡ length es * t

-- An answer by the solver's definition, to any number of arrivals. Where they are at most 65,535 it is what a call of `solve` answers (`judged-call`), and
-- every such call answers so (`call-judged`).
pub record Judged (r : Row) (v : List ℕ) (k t : ℕ) (es xs o o₁ : List ℕ) (w : Verdict) : Type 0 where
  pub receivable : Receivable r v k t es xs
  pub room_out : l_of r * t ≤ length o
  pub means : Means (l_of r) t (system_of r v k t es xs) o o₁ w

-- ---- arrivals

-- the ESI e came, with the octets f
pub record Came (t : ℕ) (es xs : List ℕ) (e : ℕ) (f : ℕ → ℕ) : Type 0 where
  pub place : ℕ
  pub below : place < length es
  pub esi : e ≡ get_or es place 0
  pub symbol : (b : ℕ) → b < t → f b ≡ cell t xs place b

-- every arrival of the first call is one of the second: neither order nor repetition counts
pub record Among (t : ℕ) (es xs fs ys : List ℕ) : Type 0 where
  pub each : (i : ℕ) → i < length es → Came t fs ys (get_or es i 0) (cell t xs i)

-- ---- what fits

-- octet b of the symbol that the sender of the set C sends for the ESI e (RFC 6330, 5.3.5.3)
abbrev pub sent : List ℕ → Row → ℕ → ℕ → List ℕ → ℕ → ℕ → ℕ
sent v r k t C e b = encoded v r (shifted e k r.kp) t C b

-- C meets the pre-code (RFC 6330, 5.3.3.3: S LDPC and H HDPC rows give 0) and the padding (5.3.1: so do the ISIs K .. K' - 1)
pub record Meets (v : List ℕ) (r : Row) (k t : ℕ) (C : List ℕ) : Type 0 where
  pub ldpc : (i : ℕ) → i < r.s → (b : ℕ) → b < t → combined t C (l_of r) (ldpc_of r i) b ≡ 0
  pub hdpc : (i : ℕ) → i < r.h → (b : ℕ) → b < t → combined t C (l_of r) (hdpc_of v r i) b ≡ 0
  pub padding : (x : ℕ) → k ≤ x → x < r.kp → (b : ℕ) → b < t → encoded v r x t C b ≡ 0

-- every symbol that arrived is what C yields for its ESI
pub record Yields (v : List ℕ) (r : Row) (k t : ℕ) (es xs C : List ℕ) : Type 0 where
  pub arrival : (i : ℕ) → i < length es → (b : ℕ) → b < t → sent v r k t C (get_or es i 0) b ≡ cell t xs i b

-- demand 3: the set C of L symbols of T octets fits
pub record Fitting (v : List ℕ) (r : Row) (k t : ℕ) (es xs C : List ℕ) : Type 0 where
  pub block : Block (l_of r) t C
  pub meets : Meets v r k t C
  pub yields : Yields v r k t es xs C

-- a single set fits, and it is C
pub record Single (v : List ℕ) (r : Row) (k t : ℕ) (es xs C : List ℕ) : Type 0 where
  pub fits : Fitting v r k t es xs C
  pub only : (D : List ℕ) → Fitting v r k t es xs D → D ≡ C

-- sets fit that differ
pub record Several (v : List ℕ) (r : Row) (k t : ℕ) (es xs : List ℕ) : Type 0 where
  pub first : List ℕ
  pub second : List ℕ
  pub first_fits : Fitting v r k t es xs first
  pub second_fits : Fitting v r k t es xs second
  pub differ : first ≢ second

-- the most rows of the call's system that are independent are n; its symbols count for nothing, so none are given
abbrev pub MostRows : List ℕ → Row → ℕ → List ℕ → ℕ → Type 0
MostRows v r k es n = MostIndependent octets (equations r k (length es)) (cut (l_of r) (in_octets (system_of r v k 0 es [])).coef) n

-- ---- the shortfall as a floor (document 02, E9)

-- what an answer lacks: the shortfall where it is open, 0 where it is solved; of a contradiction nothing is said
abbrev pub Lacks : Verdict → ℕ → Type 0
Lacks Solved n = n ≡ 0
Lacks Contradiction n = ⊥
Lacks (Open s) n = n ≡ s

-- the ESIs e and f have one row (RFC 6330, 5.3.5.3), as every ESI has with itself
pub record SameRow (v : List ℕ) (r : Row) (k e f : ℕ) : Type 0 where
  pub coefs : (c : ℕ) → c < l_of r → sent_row v r k e c ≡ sent_row v r k f c

-- each row of the ESIs fs is a row of the ESIs es: neither order nor repetition counts, nor do the symbols that came
pub record RowsAmong (v : List ℕ) (r : Row) (k : ℕ) (fs es : List ℕ) : Type 0 where
  pub each : (i : ℕ) → i < length fs → (j : ℕ) × (j < length es) × SameRow v r k (get_or fs i 0) (get_or es j 0)

-- and each of es is one of fs
pub record SameRows (v : List ℕ) (r : Row) (k : ℕ) (fs es : List ℕ) : Type 0 where
  pub to : RowsAmong v r k fs es
  pub back : RowsAmong v r k es fs

-- the row of the ESI e depends on those of a call with the ESIs es: it is a combination of them and of the rows that row, tables and K fix
abbrev pub Depends : List ℕ → Row → ℕ → List ℕ → ℕ → Type 0
Depends v r k es e =
    InSpan octets (equations r k (length es)) (cut (l_of r) (in_octets (system_of r v k 0 es [])).coef) (λ (c : Col (l_of r)). oct (sent_row v r k e c.0))

-- ---- encoding

-- a call of `encode` for the ESI e, from the intermediates C, was not refused and left the octets f in front of its out store
pub record Encoding (v : List ℕ) (r : Row) (k t e : ℕ) (C : List ℕ) (f : ℕ → ℕ) : Type 0 where
  pub out : List ℕ
  pub after : List ℕ
  pub contract : Encodes v r k t e C out after (Ok tt)
  pub front : (b : ℕ) → b < t → f b ≡ get_or after b 0
