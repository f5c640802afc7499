-- The examples of document 01 that are marked to be proved, of this layer, in front of those below: the whole list.
-- Assumes nothing.
use Rattle.std.specs.Prelude.{List, [], ◌∷◌, ◌++◌}
use Rattle.field.specs.Ones.{ones}
use Rattle.field.specs.Examples.{Example}
use Rattle.headers.specs.Row.{l_of, row_of}
use Rattle.headers.specs.declared.row.Row.{Row}
use Rattle.headers.specs.Examples as headers
use Rattle.constraints.specs.Answers.{places_of}
use Rattle.constraints.specs.Ldpc.{ldpc_of}

-- the first row of Table 2
abbrev pub first_row : Row
first_row = row_of 10 254 7 10 17

-- tuple (2,3,16,2,4,10) gives 16, 2, 20, 24; (1,1,0,3,1,9) gives 0, 26, 17, 18
abbrev walks : List Example
walks =
    (places_of first_row (record { d = 2; a = 3; b = 16; d1 = 2; a1 = 4; b1 = 10 }), 16 ∷ 2 ∷ 20 ∷ 24 ∷ [])
    ∷ (places_of first_row (record { d = 1; a = 1; b = 0; d1 = 3; a1 = 1; b1 = 9 }), 0 ∷ 26 ∷ 17 ∷ 18 ∷ [])
    ∷ []

-- LDPC row 0: ones at 0, 5, 6, 7, 10, 17, 18
abbrev ldpcs : List Example
ldpcs = (ones (ldpc_of first_row 0) 0 (l_of first_row), 0 ∷ 5 ∷ 6 ∷ 7 ∷ 10 ∷ 17 ∷ 18 ∷ []) ∷ []

abbrev pub examples : List Example
examples = walks ++ (ldpcs ++ headers.examples)
