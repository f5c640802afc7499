-- The constraint matrix over lent words: what it holds, and when a builder refuses (document 01, 'Matrices and slab').
-- Assumes nothing.
use Rattle.std.specs.Prelude.{◌≡◌, not, List, Result, ℕ, ◌+◌, ◌-◌, ◌/◌, ◌^◌, ◌<◌, ◌≤◌, eqb, ltb, length, get_or}
use Rattle.field.specs.Answer.{Outcome, given, unless, Left, before, outcome}
use Rattle.field.specs.Choice.{pick}
use Rattle.field.specs.declared.refusal.Refusal.{Refusal}
use Rattle.headers.specs.Row.{verified, l_of}
use Rattle.headers.specs.declared.row.Row.{Row}
use Rattle.stores.specs.Matrix.{entry, row_words, shape, words_of}
use Rattle.stores.specs.declared.matrix.DenseBinaryMatrix.{DenseBinaryMatrix}
use Rattle.constraints.specs.Encoding.{enc_of}
use Rattle.constraints.specs.Ldpc.{ldpc_of}

-- row i, column c: S LDPC rows, then `zeros` rows of 0, then one row for each ISI
unfoldable pub system : List ℕ → List ℕ → Row → ℕ → ℕ → ℕ → ℕ
system v isis r zeros i c =
    pick (ltb i r.s) (ldpc_of r i c) (pick (ltb i (r.s + zeros)) 0 (enc_of v r (get_or isis (i - (r.s + zeros)) 0) c))

-- S + zeros + n rows, L columns
abbrev pub shaped : Row → ℕ → ℕ → DenseBinaryMatrix
shaped r zeros n = shape (r.s + zeros + n) (l_of r)

-- every bit of every row, those past the width too; the words past the matrix stay
pub record Built (v isis : List ℕ) (r : Row) (zeros : ℕ) (xs ys : List ℕ) : Type 0 where
  pub size : length ys ≡ length xs
  pub bits : (i c : ℕ) → i < r.s + zeros + length isis → c / 64 < row_words (l_of r)
      → entry (shaped r zeros (length isis)) ys i c ≡ system v isis r zeros i c
  pub word : (k : ℕ) → k < words_of (shaped r zeros (length isis)) → get_or ys k 0 < 2 ^ 64
  pub high : (k : ℕ) → words_of (shaped r zeros (length isis)) ≤ k → get_or ys k 0 ≡ get_or xs k 0

-- a row that breaks its rules, tables that are not 1,024 numbers, too few ids or too many, too short a store
abbrev pub buildable : Row → ℕ → ℕ → ℕ → ℕ → ℕ → Outcome DenseBinaryMatrix
buildable r tables ids zeros least room =
    before (verified r) (unless (not (eqb tables 1024)) 5 (unless (ltb ids least) 9 (unless (ltb 65535 ids) 9
    (unless (ltb room (words_of (shaped r zeros ids))) 8 (given (shaped r zeros ids))))))

pub record Builds (v isis : List ℕ) (r : Row) (zeros least : ℕ) (xs ys : List ℕ) (a : Result DenseBinaryMatrix Refusal) : Type 0 where
  pub answer : outcome a ≡ buildable r (length v) (length isis) zeros least (length xs)
  pub memory : Left (outcome a) xs ys (Built v isis r zeros xs ys)
