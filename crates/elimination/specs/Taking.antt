-- One equation against the r held ones: its row x, of L octets, and its symbol y, of T octets, stand in buffers of their own; the held rows stand
-- in a, their symbols in d, their pivots in ps.
-- Assumes nothing.
use Rattle.std.specs.Prelude.{◌≡◌, ◌≢◌, List, ℕ, ◌+◌, ◌-◌, ◌*◌, ◌≤◌, ◌<◌, length, get_or}
use Rattle.field.specs.Octet.{plus, times}
use Rattle.field.specs.Runs.{FirstOther, Written}
use Rattle.linear.specs.System.{System}
use Rattle.linear.specs.Bytes.{Bytes, cell, ContradictionBytes}
use Rattle.linear.specs.Rows.{behind}
use Rattle.linear.specs.Elimination.{Holds, Keeps, Stepped}
use Rattle.elimination.specs.Steps.{column}
use Rattle.elimination.specs.declared.beneath.taking.Taken.{Taken}
use Rattle.elimination.specs.declared.beneath.taking.Taken.TheVariants.{Held, Dependent, Clash}

-- ---- what is asked

-- r rows, their symbols and their pivots stand there, and each pivot is a column
pub record Lent (L T r : ℕ) (ps a d : List ℕ) : Type 0 where
  pub rows : r * L ≤ length a
  pub symbols : r * T ≤ length d
  pub pivots : r ≤ length ps
  pub below : (k : ℕ) → k < r → column ps k < L

-- there is a place for one more
pub record RoomForOne (L T r : ℕ) (ps a d : List ℕ) : Type 0 where
  pub rows : r * L + L ≤ length a
  pub symbols : r * T + T ≤ length d
  pub pivots : r < length ps

-- the buffers are as wide as a row and a symbol
pub record Wide (L T : ℕ) (x y : List ℕ) : Type 0 where
  pub row : length x ≡ L
  pub symbol : length y ≡ T

-- ---- the steps

-- f times row k of a, from column s on, went onto x
abbrev pub OntoFrom : (w k s f : ℕ) (a x x₁ : List ℕ) → Type 0
OntoFrom w k s f a x x₁ = Written (λ c. plus (get_or x (s + c) 0) (times f (cell w a k (s + c)))) x x₁ s (w - s)

-- all of it
abbrev pub Onto : (w k f : ℕ) (a x x₁ : List ℕ) → Type 0
Onto w k f a x x₁ = Written (λ c. plus (get_or x c 0) (times f (cell w a k c))) x x₁ 0 w

-- x was multiplied by f
abbrev pub Times : (f : ℕ) (x x₁ : List ℕ) → Type 0
Times f x x₁ = Written (λ c. times f (get_or x c 0)) x x₁ 0 (length x)

-- the first k held rows are off the equation: it is 0 at their pivots, and behind the held ones it says with them what it said
pub record Swept (L T r k : ℕ) (ps a d x y x₁ y₁ : List ℕ) : Type 0 where
  pub gone : (j : ℕ) → j < k → get_or x₁ (column ps j) 0 ≡ 0
  pub keeps : Keeps (r + 1) L T (behind L r a x) (behind T r d y) (behind L r a x₁) (behind T r d y₁)
  pub row-bytes : Bytes x₁
  pub symbol-bytes : Bytes y₁

-- c is the first column in which x is not 0, or L; and L once L rows are held
pub record Sought (L r : ℕ) (x : List ℕ) (c : ℕ) : Type 0 where
  pub most : c ≤ L
  pub vacant : c < L → r < L
  pub first : r < L → FirstOther x 0 L c

-- a row that may be held with column c for its pivot: it is 0 at the r pivots and before c, and not 0 there
pub record Fresh (r c : ℕ) (ps x : List ℕ) : Type 0 where
  pub gone : (k : ℕ) → k < r → get_or x (column ps k) 0 ≡ 0
  pub low : (k : ℕ) → k < c → get_or x k 0 ≡ 0
  pub other : get_or x c 0 ≢ 0

-- nothing changed but in place r, which has column c for its pivot
pub record PutIn (L T r c : ℕ) (ps a d ps₁ a₁ d₁ : List ℕ) : Type 0 where
  pub rows : Written (λ k. cell L a₁ r k) a a₁ (r * L) L
  pub symbols : Written (λ k. cell T d₁ r k) d d₁ (r * T) T
  pub pivots : length ps₁ ≡ length ps
  pub old : (k : ℕ) → k ≢ r → column ps₁ k ≡ column ps k
  pub new : column ps₁ r ≡ c

-- what stands in place r then, with the held ones, is what the equation said with them
pub record Lodged (L T r c : ℕ) (ps a d x y ps₁ a₁ d₁ : List ℕ) : Type 0 where
  pub stands : Fresh r c ps x → Stepped L r (column ps) a d → Stepped L (r + 1) (column ps₁) a₁ d₁
  pub says : get_or x c 0 ≢ 0 → (S : System ℕ) → Holds (r + 1) L T S (behind L r a x) (behind T r d y) → Holds (r + 1) L T S a₁ d₁

-- ---- what `take` says

-- held: what was said by the held equations and by the one that came is said by those that are held now
pub record Joins (L T r : ℕ) (a d x y ps₁ a₁ d₁ : List ℕ) : Type 0 where
  pub stands : Stepped L (r + 1) (column ps₁) a₁ d₁
  pub says : (S : System ℕ) → Holds (r + 1) L T S (behind L r a x) (behind T r d y) → Holds (r + 1) L T S a₁ d₁

-- dependent: the held equations say all of it
pub record Followed (L T r : ℕ) (a d x y : List ℕ) : Type 0 where
  pub says : (S : System ℕ) → Holds (r + 1) L T S (behind L r a x) (behind T r d y) → Holds r L T S a d

-- clash: no set of symbols fits the held equations and the one that came
pub record Denied (L T r : ℕ) (a d x y : List ℕ) : Type 0 where
  pub none : (S : System ℕ) → Holds (r + 1) L T S (behind L r a x) (behind T r d y) → ContradictionBytes L T S

-- the stores are as they were
pub record Still (ps a d ps₁ a₁ d₁ : List ℕ) : Type 0 where
  pub pivots : ps₁ ≡ ps
  pub rows : a₁ ≡ a
  pub symbols : d₁ ≡ d

-- what became of the equation, whatever the stores held, and what that means if they stood as an elimination leaves them
abbrev pub Became : (L T r : ℕ) (ps a d x y ps₁ a₁ d₁ : List ℕ) → Taken → Type 0
Became L T r ps a d x y ps₁ a₁ d₁ Held =
    (r < L) × ((c : ℕ) × (c < L) × PutIn L T r c ps a d ps₁ a₁ d₁) × (Stepped L r (column ps) a d → Joins L T r a d x y ps₁ a₁ d₁)
Became L T r ps a d x y ps₁ a₁ d₁ Dependent = Still ps a d ps₁ a₁ d₁ × (Stepped L r (column ps) a d → Followed L T r a d x y)
Became L T r ps a d x y ps₁ a₁ d₁ Clash = Still ps a d ps₁ a₁ d₁ × (Stepped L r (column ps) a d → Denied L T r a d x y)
