-- Document 01, 'Solver and symbols': the system of a call, group by group from RFC 6330, when a call is refused, and what it leaves.
-- Assumes nothing.
use Rattle.std.specs.Prelude.{◌≡◌, Bool, not, List, ℕ, ◌+◌, ◌-◌, ◌*◌, ◌≤◌, ◌<◌, eqb, ltb, length, get_or, Result, Ok, Err}
use Rattle.field.specs.Answer.{Outcome, given, refused, unless, code_of, before}
use Rattle.field.specs.Runs.{Written}
use Rattle.headers.specs.Row.{verified, l_of}
use Rattle.headers.specs.Shift.{shifted}
use Rattle.headers.specs.declared.row.Row.{Row}
use Rattle.constraints.specs.Encoding.{enc_of}
use Rattle.constraints.specs.Hdpc.{hdpc_of}
use Rattle.constraints.specs.Ldpc.{ldpc_of}
use Rattle.linear.specs.System.{System, joined}
use Rattle.linear.specs.Bytes.{cell}
use Rattle.elimination.specs.Verdict.{Means}
use Rattle.solver.specs.Display.{any_large}
use Rattle.solver.specs.Order.{Sendable, isi_rows, isi_of, place_of}
use Rattle.field.specs.declared.refusal.Refusal.{Refusal}
use Rattle.elimination.specs.declared.verdict.Verdict.{Verdict}

-- ---- how many equations

-- those that row and K fix: S LDPC, H HDPC and K' - K padding rows
abbrev pub fixed : Row → ℕ → ℕ
fixed r k = r.s + r.h + (r.kp - k)

-- M: those, and one for each of n arrivals
abbrev pub equations : Row → ℕ → ℕ → ℕ
equations r k n = fixed r k + n

-- ---- the groups

-- n rows f whose symbols are 0
abbrev pub blank_rows : ℕ → (ℕ → ℕ → ℕ) → System ℕ
blank_rows n f = record { count = n; coef = f; byte = λ i b. 0 }

-- the LDPC rows (RFC 6330, 5.3.3.3)
abbrev pub ldpc_rows : Row → System ℕ
ldpc_rows r = blank_rows r.s (ldpc_of r)

-- the HDPC rows (5.3.3.3)
abbrev pub hdpc_rows : List ℕ → Row → System ℕ
hdpc_rows v r = blank_rows r.h (hdpc_of v r)

-- the padding, the ISIs K .. K' - 1 (5.3.1)
abbrev pub padding_rows : List ℕ → Row → ℕ → System ℕ
padding_rows v r k = blank_rows (r.kp - k) (λ i. enc_of v r (k + i))

-- the row of an encoding symbol id (5.3.5.3), by its ISI (5.3.1)
abbrev pub sent_row : List ℕ → Row → ℕ → ℕ → ℕ → ℕ
sent_row v r k e c = enc_of v r (shifted e k r.kp) c

-- the arrivals (5.3.3.4): the ESIs es with the symbols xs of T octets
abbrev pub arrival_rows : List ℕ → Row → ℕ → ℕ → List ℕ → List ℕ → System ℕ
arrival_rows v r k t es xs = record { count = length es; coef = λ i. sent_row v r k (get_or es i 0); byte = cell t xs }

-- ---- their sum

-- what row, tables and K fix, with the group D in the HDPC rows' place: a system may take the H rows, or none
abbrev pub fixed_with : System ℕ → List ℕ → Row → ℕ → System ℕ
fixed_with D v r k = joined (joined (ldpc_rows r) D) (padding_rows v r k)

-- and the arrivals
abbrev pub system_with : System ℕ → Row → List ℕ → ℕ → ℕ → List ℕ → List ℕ → System ℕ
system_with D r v k t es xs = joined (fixed_with D v r k) (arrival_rows v r k t es xs)

-- the system of a call, with the H rows: row r, tables v, K, T, the ESIs es and the symbols xs. Its count is M (`counted`)
abbrev pub system_of : Row → List ℕ → ℕ → ℕ → List ℕ → List ℕ → System ℕ
system_of r v = system_with (hdpc_rows v r) r v

-- ---- the stores

-- rows of w octets in a store, one after the other: ys is xs, but that the n rows from row `from` on are f 0, f 1, ..
pub record RowsLaid (w : ℕ) (f : ℕ → ℕ → ℕ) (xs ys : List ℕ) (from n : ℕ) : Type 0 where
  pub size : length ys ≡ length xs
  pub row : (i : ℕ) → i < n → (c : ℕ) → c < w → cell w ys (from + i) c ≡ f i c
  pub low : (k : ℕ) → k < from * w → get_or ys k 0 ≡ get_or xs k 0
  pub high : (k : ℕ) → (from + n) * w ≤ k → get_or ys k 0 ≡ get_or xs k 0

-- a store that was filled with the coefficients: arrivals and padding rows in an order of their own, then LDPC and HDPC rows. That is faster, and
-- not seen from outside.
pub record RowsFilled (r : Row) (v : List ℕ) (k : ℕ) (es xs ys : List ℕ) : Type 0 where
  pub size : length ys ≡ length xs
  pub row : (i : ℕ) → i < isi_rows r k es → (c : ℕ) → c < l_of r → cell (l_of r) ys (place_of v r k es i) c ≡ enc_of v r (isi_of r k es i) c
  pub ldpc : (i : ℕ) → i < r.s → (c : ℕ) → c < l_of r → cell (l_of r) ys (isi_rows r k es + i) c ≡ ldpc_of r i c
  pub hdpc : (i : ℕ) → i < r.h → (c : ℕ) → c < l_of r → cell (l_of r) ys (isi_rows r k es + r.s + i) c ≡ hdpc_of v r i c
  pub high : (x : ℕ) → equations r k (length es) * l_of r ≤ x → get_or ys x 0 ≡ get_or xs x 0

-- a store that was filled with the symbols xs of the call in the same order: there is none past the last arrival, and a place past the end of xs
-- reads 0
pub record SymbolsFilled (r : Row) (v : List ℕ) (k t : ℕ) (es xs d d₁ : List ℕ) : Type 0 where
  pub size : length d₁ ≡ length d
  pub symbol : (i : ℕ) → i < isi_rows r k es → (b : ℕ) → b < t → cell t d₁ (place_of v r k es i) b ≡ cell t xs i b
  pub blank : (i : ℕ) → i < r.s + r.h → (b : ℕ) → b < t → cell t d₁ (isi_rows r k es + i) b ≡ 0
  pub high : (x : ℕ) → equations r k (length es) * t ≤ x → get_or d₁ x 0 ≡ get_or d x 0

-- a call that is not refused has made sure that its system can be filled in
pub record Fillable (r : Row) (v : List ℕ) (k t : ℕ) (es xs a d : List ℕ) : Type 0 where
  pub sendable : Sendable r v k es
  pub all : length xs ≡ length es * t
  pub room-rows : equations r k (length es) * l_of r ≤ length a
  pub room-values : equations r k (length es) * t ≤ length d

-- and solved: the theorem `admits` says that this is what `admitted` asks
pub record Admits (r : Row) (v : List ℕ) (k t : ℕ) (es xs a d o : List ℕ) : Type 0 where
  pub fillable : Fillable r v k t es xs a d
  pub t-low : 0 < t
  pub room_out : l_of r * t ≤ length o

-- ---- the call

-- refusal 8: stores of a, d and o octets, for n arrivals
abbrev pub room_to_solve : Row → ℕ → ℕ → ℕ → ℕ → ℕ → ℕ → Outcome (Unit {0})
room_to_solve r k t n a d o =
    unless (ltb a (equations r k n * l_of r)) 8 (unless (ltb d (equations r k n * t)) 8 (unless (ltb o (l_of r * t)) 8 (given tt)))

-- the refusals, on numbers: 4, 5, 9, 10, 8. Tables of `tables` numbers, n arrivals, `large` if an ESI is too large, symbols of `came` octets,
-- and stores of a, d and o octets
abbrev pub solvable : Row → ℕ → ℕ → ℕ → ℕ → Bool → ℕ → ℕ → ℕ → ℕ → Outcome (Unit {0})
solvable r tables k t n large came a d o =
    before (verified r) (unless (not (eqb tables 1024)) 5
    (unless large 9 (unless (ltb k 1) 9 (unless (ltb r.kp k) 9 (unless (ltb 65535 n) 9
    (unless (eqb t 0) 10 (unless (not (eqb came (n * t))) 10 (room_to_solve r k t n a d o))))))))

-- the same, of a call
abbrev pub admitted : Row → List ℕ → ℕ → ℕ → (es xs a d o : List ℕ) → Outcome (Unit {0})
admitted r v k t es xs a d o = solvable r (length v) k t (length es) (any_large es) (length xs) (length a) (length d) (length o)

-- The contract. Before, the stores a, d and o; after, a₁, d₁ and o₁. A call that is not refused answers for its system, and leaves 0 in the used
-- parts of a and d.
abbrev pub Solves : Row → List ℕ → ℕ → ℕ → (es xs a d o a₁ d₁ o₁ : List ℕ) → Result Verdict Refusal → Type 0
Solves r v k t es xs a d o a₁ d₁ o₁ (Ok verdict) =
    (admitted r v k t es xs a d o ≡ given tt)
    × Means (l_of r) t (system_of r v k t es xs) o o₁ verdict
    × Written (λ _. 0) a a₁ 0 (equations r k (length es) * l_of r)
    × Written (λ _. 0) d d₁ 0 (equations r k (length es) * t)
Solves r v k t es xs a d o a₁ d₁ o₁ (Err why) =
    (admitted r v k t es xs a d o ≡ refused (code_of why)) × (a₁ ≡ a) × (d₁ ≡ d) × (o₁ ≡ o)
