-- A text in ASCII.
-- Assumes nothing.
use Rattle.std.specs.Prelude.{List, [] as none, ◌∷◌ as next, ℕ}
use Prim.Native.Char.{code}
use Prim.Native.String.{String, [], ◌∷◌}

abbrev pub ascii : String → List ℕ
ascii [] = none
ascii (c ∷ s) = next (code c) (ascii s)
