-- Elimination in two stores, one equation at a time: what the stores say, and what stands where. The rows stand in a, of width L, and their
-- symbols in d, of width T. Nothing is said of the way in which a step was done.
-- Assumes nothing.
use Rattle.std.specs.Prelude.{◌≡◌, ◌⊎◌, List, ℕ, ◌<◌, get_or}
use Rattle.linear.specs.Span.{SameSpan}
use Rattle.linear.specs.System.{System, SameEquation, OneOf, Included, equation, Follows}
use Rattle.linear.specs.Octets.{octets}
use Rattle.linear.specs.Bytes.{Bytes, cell, stored_system, in_octets}

-- the M equations in the stores say what S says: each system follows from the other
pub record Holds (M L T : ℕ) (S : System ℕ) (a d : List ℕ) : Type 0 where
  pub to : Follows octets L T (in_octets S) (in_octets (stored_system M L T a d))
  pub back : Follows octets L T (in_octets (stored_system M L T a d)) (in_octets S)

-- the one equation that stands in two buffers
abbrev pub alone : (x y : List ℕ) → System ℕ
alone x y = record { count = 1; coef = λ _ c. get_or x c 0; byte = λ _ t. get_or y t 0 }

-- R has the equations of S and that one, in any order, and no other
pub record OneMore (L T : ℕ) (S : System ℕ) (x y : List ℕ) (R : System ℕ) : Type 0 where
  pub old : Included L T S R
  pub new : Included L T (alone x y) R
  pub only : (i : ℕ) → i < R.count → OneOf L T R i S ⊎ SameEquation L T R i (alone x y) 0

-- what a step from a, d to a₁, d₁ keeps: the first n equations say the same as before
pub record Keeps (n L T : ℕ) (a d a₁ d₁ : List ℕ) : Type 0 where
  pub says : SameSpan octets n (equation L T (in_octets (stored_system n L T a d))) (equation L T (in_octets (stored_system n L T a₁ d₁)))

-- r equations are held, in places 0 .. r - 1: the row of each is 1 at its pivot, 0 before it, and 0 at the pivots of those before it
pub record Stepped (L r : ℕ) (pivot : ℕ → ℕ) (a d : List ℕ) : Type 0 where
  pub column : (k : ℕ) → k < r → pivot k < L
  pub one : (k : ℕ) → k < r → cell L a k (pivot k) ≡ 1
  pub low : (k : ℕ) → k < r → (c : ℕ) → c < pivot k → cell L a k c ≡ 0
  pub off : (i : ℕ) → i < r → (k : ℕ) → k < i → cell L a i (pivot k) ≡ 0
  pub row-bytes : Bytes a
  pub symbol-bytes : Bytes d

-- the r pivots are different columns below L
pub record Columns (L r : ℕ) (pivot : ℕ → ℕ) : Type 0 where
  pub below : (k : ℕ) → k < r → pivot k < L
  pub once : (i k : ℕ) → i < r → k < r → pivot i ≡ pivot k → i ≡ k
