-- What the answer of a test says of the fact that it tests.
-- Assumes nothing.
use Rattle.std.specs.Prelude.{Bool, true, false}

abbrev pub Told : Bool → Type 0 → Type 0
Told true A = A
Told false A = A → ⊥
