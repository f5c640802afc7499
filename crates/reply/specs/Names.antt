-- The name of the file beside OUT.
-- Assumes nothing.
use Rattle.std.specs.Prelude.{◌≡◌, List, ◌++◌, ℕ, ◌-◌, ◌≤◌, ◌<◌, length, get_or, take, drop}
use Rattle.header_text.specs.Text.{spelled}
use Rattle.reply.specs.Ascii.{ascii}
use Rattle.reply.specs.Words.{Line}

-- the last part of a path begins at k: there is no '/' from there on, and one just in front unless the path begins there
pub record LastPart (path : List ℕ) (k : ℕ) : Type 0 where
  pub inside : k ≤ length path
  pub none : (i : ℕ) → i < length path → k ≤ i → get_or path i 0 ≡ 47 → ⊥
  pub slash : 0 < k → get_or path (k - 1) 0 ≡ 47

-- the folder, a dot, the last part, '.receive-' and a number
abbrev pub beside_of : List ℕ → ℕ → ℕ → List ℕ
beside_of path k i = take k path ++ (ascii "." ++ (drop k path ++ (ascii ".receive-" ++ spelled 20 i)))

-- at the front of a store, n bytes long
pub record Beside (path : List ℕ) (i : ℕ) (xs ys : List ℕ) (n : ℕ) : Type 0 where
  pub from : ℕ
  pub last : LastPart path from
  pub line : Line (beside_of path from i) xs ys n
