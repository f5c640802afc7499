-- The examples of document 01 that are marked to be proved. Layers above put theirs before these, and the highest proves the one list.
-- Assumes nothing.
use Rattle.std.specs.Prelude.{Bool, true, false, List, [], ◌∷◌, ℕ, eqb}
use Rattle.field.specs.Choice.{both}
use Rattle.field.specs.Octet.{times, over}

-- the numbers that a definition gives, and those of the paper
abbrev pub Example : Type 0
Example = List ℕ × List ℕ

abbrev pub same : List ℕ → List ℕ → Bool
same [] [] = true
same [] (y ∷ ys) = false
same (x ∷ xs) [] = false
same (x ∷ xs) (y ∷ ys) = both (eqb x y) (same xs ys)

abbrev pub hold : List Example → Bool
hold [] = true
hold (e ∷ es) = both (same e.0 e.1) (hold es)

-- 128·2 = 29; 142·2 = 1; 3·7 = 9; 0·255 = 0; 9/7 = 3
abbrev pub octet_examples : List Example
octet_examples =
    (times 128 2 ∷ [], 29 ∷ []) ∷ (times 142 2 ∷ [], 1 ∷ []) ∷ (times 3 7 ∷ [], 9 ∷ []) ∷ (times 0 255 ∷ [], 0 ∷ []) ∷ (over 9 7 ∷ [], 3 ∷ []) ∷ []
