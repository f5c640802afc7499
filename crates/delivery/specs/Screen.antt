-- When a delivery is taken (docs/DELIVERY.md): the first thing wrong with it, in the order in which its bytes are read. Its first 4,128 bytes decide.
-- Assumes nothing.
use Rattle.std.specs.Prelude.{not, List, Result, Ok, Err, ℕ, eqb, ltb, length}
use Rattle.field.specs.Answer.{Outcome, given, refused, unless, before, code_of}
use Rattle.headers.specs.Headers.{info_checked}
use Rattle.headers.specs.Row.{verified, l_of}
use Rattle.headers.specs.declared.row.Row.{Row}
use Rattle.headers.specs.declared.transmission.ObjectTransmissionInformation.{ObjectTransmissionInformation}
use Rattle.delivery.specs.Layout.{info_of, row_in, t_of, k_of}
use Rattle.delivery.specs.declared.beneath.screen.Stop.{Stop}
use Rattle.delivery.specs.declared.beneath.screen.Stop.TheVariants as Stops

-- the codes of refusals, and two numbers that are none of them for what this program alone does not take
abbrev pub stop_of : Stop → ℕ
stop_of (Stops.Refused why) = code_of why
stop_of Stops.TooLarge = 101
stop_of Stops.SeveralBlocks = 102

abbrev pub screened : Result (Unit {0}) Stop → Outcome (Unit {0})
screened (Ok _) = given tt
screened (Err why) = refused (stop_of why)

-- one block, of one sub-block
abbrev pub shape_screen : ObjectTransmissionInformation → Outcome (Unit {0})
shape_screen o =
    unless (not (eqb o.num_source_blocks 1)) 102 (unless (not (eqb o.num_sub_blocks 1)) 102 (given tt))

-- the rules of transmission information, and these
abbrev pub info_screen : ObjectTransmissionInformation → Outcome (Unit {0})
info_screen o = before (info_checked o) (shape_screen o)

-- the rules of a row, K from 1 to K', and what the stores of this program hold
abbrev pub row_screen : Row → ℕ → ℕ → Outcome (Unit {0})
row_screen r k t =
    before (verified r) (unless (ltb k 1) 9 (unless (ltb r.kp k) 9 (unless (ltb 1024 t) 101 (unless (ltb 300 (l_of r)) 101 (given tt)))))

-- all of the tables
abbrev pub tables_screen : List ℕ → Outcome (Unit {0})
tables_screen d = unless (ltb (length d) 4128) 5 (given tt)

abbrev pub rest_screen : List ℕ → ℕ → ℕ → Outcome (Unit {0})
rest_screen d k t = before (row_screen (row_in d) k t) (tables_screen d)

unfoldable pub screen : List ℕ → Outcome (Unit {0})
screen d = unless (ltb (length d) 32) 8 (before (info_screen (info_of d)) (rest_screen d (k_of d) (t_of d)))
