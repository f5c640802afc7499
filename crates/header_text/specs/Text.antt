-- The header program's text: document 01, 'Headers'.
-- Assumes nothing.
use Rattle.std.specs.Prelude.{◌≡◌, List, [], ◌∷◌, ◌++◌, ℕ, zero, suc, ◌+◌, ◌/◌, ◌%◌, ◌≤◌, ltb, length, take, drop}
use Rattle.field.specs.Answer.{Outcome, given, refused, number_in}
use Rattle.field.specs.Choice.{pick}
use Rattle.headers.specs.Bytes.{Laid}
use Rattle.headers.specs.Headers.{info_checked, read_id, read_info}
use Rattle.headers.specs.declared.payload_id.PayloadId.{PayloadId}
use Rattle.headers.specs.declared.transmission.ObjectTransmissionInformation.{ObjectTransmissionInformation}

-- the decimal digits of a number that has at most n of them, in ASCII
unfoldable pub spelled : ℕ → ℕ → List ℕ
spelled zero x = []
spelled (suc n) x = pick (ltb x 10) ((48 + x) ∷ []) (spelled n (x / 10) ++ ((48 + x % 10) ∷ []))

-- a label, a number of 64 bits and a line feed
abbrev pub line : List ℕ → ℕ → List ℕ
line label x = label ++ (spelled 20 x ++ (10 ∷ []))

-- 'F', 'T', 'Z', 'N', 'Al'
abbrev pub info_lines : ObjectTransmissionInformation → List ℕ
info_lines o =
    line (70 ∷ 32 ∷ []) o.transfer_length ++ (line (84 ∷ 32 ∷ []) o.symbol_size ++ (line (90 ∷ 32 ∷ []) o.num_source_blocks
    ++ (line (78 ∷ 32 ∷ []) o.num_sub_blocks ++ line (65 ∷ 108 ∷ 32 ∷ []) o.symbol_alignment)))

-- 'SBN', 'ESI'
abbrev pub id_lines : PayloadId → List ℕ
id_lines i = line (83 ∷ 66 ∷ 78 ∷ 32 ∷ []) i.source_block_number ++ line (69 ∷ 83 ∷ 73 ∷ 32 ∷ []) i.encoding_symbol_id

-- 'refused'
abbrev pub refused_line : ℕ → List ℕ
refused_line = line (114 ∷ 101 ∷ 102 ∷ 117 ∷ 115 ∷ 101 ∷ 100 ∷ 32 ∷ [])

-- 'accepted', or why not
abbrev pub verdict_line : Outcome (Unit {0}) → List ℕ
verdict_line (given _) = 97 ∷ 99 ∷ 99 ∷ 101 ∷ 112 ∷ 116 ∷ 101 ∷ 100 ∷ 10 ∷ []
verdict_line (refused n) = refused_line (number_in n)

-- what was read, and the verdict of the check; or the refusal of a part that could not be read
abbrev pub told : Outcome ObjectTransmissionInformation → Outcome PayloadId → List ℕ
told (refused n) i = refused_line (number_in n)
told (given o) (refused n) = refused_line (number_in n)
told (given o) (given i) = info_lines o ++ (id_lines i ++ verdict_line (info_checked o))

-- twelve bytes of transmission information, and four of a payload id
abbrev pub text_of : List ℕ → List ℕ
text_of s = told (read_info (take 12 s)) (read_id (drop 12 s))

-- ys is xs with the text bs, of at most `most` bytes, from `at` to `to`
pub record Lined (bs : List ℕ) (most : ℕ) (xs ys : List ℕ) (at to : ℕ) : Type 0 where
  pub laid : Laid bs xs ys at
  pub ends : to ≡ at + length bs
  pub short : length bs ≤ most
