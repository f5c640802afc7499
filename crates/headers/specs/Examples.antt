-- The examples of document 01 that are marked to be proved, of this layer. They go in front of those of `field`.
-- Assumes nothing.
use Rattle.std.specs.Prelude.{List, [], ◌∷◌, ◌++◌}
use Rattle.field.specs.Examples.{Example, octet_examples}
use Rattle.headers.specs.Degree.{degree}
use Rattle.headers.specs.Partition.{parts}

-- W 100: deg 5242 is 1, 5243 is 2, 1017661 is 29, 1048575 is 30; with W 17, 15
abbrev degrees : List Example
degrees =
    (degree 5242 100 ∷ [], 1 ∷ []) ∷ (degree 5243 100 ∷ [], 2 ∷ []) ∷ (degree 1017661 100 ∷ [], 29 ∷ []) ∷ (degree 1048575 100 ∷ [], 30 ∷ [])
    ∷ (degree 1048575 17 ∷ [], 15 ∷ []) ∷ []

-- 10 into 3 is 4, 3, 1, 2
abbrev partitions : List Example
partitions = (parts 10 3, 4 ∷ 3 ∷ 1 ∷ 2 ∷ []) ∷ []

abbrev pub examples : List Example
examples = degrees ++ (partitions ++ octet_examples)
