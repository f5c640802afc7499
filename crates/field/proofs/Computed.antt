-- Facts about all the numbers below a bound, and about all the entries of a table, each by one test that antt computes.
-- Assumes nothing.
use mathlib.Core.Path.{◌≡◌, ◌∙◌, ap, subst, sym}
use mathlib.Core.Bool.{Bool, true, false}
use mathlib.Core.List.{List, [], ◌∷◌}
use Prim.Native.Nat.{ℕ, zero, suc, ◌+◌, ◌<◌}
use native.Mathlib.Nat.{add-zero, zero-add, add-suc, suc-add, le_of_suc-le-suc, not-suc-le-zero}
use native.Mathlib.Decide.{ℕ_discrete}
use native.Mathlib.Omega.{arith}
use lib.Dec.{T, eqb, eqb→eq}
use lib.ListN.{length, get_or}
use Rattle.field.specs.Choice.{both}

pub both_left : (a b : Bool) → T (both a b) → T a
both_left true b t = tt
both_left false b t = t

pub both_right : (a b : Bool) → T (both a b) → T b
both_right true b t = t
both_right false b t = absurd t

-- the test f passes at each number below n
abbrev pub below : ℕ → (ℕ → Bool) → Bool
below zero f = true
below (suc n) f = both (f n) (below n f)

pub under : (n : ℕ) (f : ℕ → Bool) → T (below n f) → (k : ℕ) → k < n → T (f k)
under zero f t k h = absurd (not-suc-le-zero h)
under (suc n) f t k h = go (ℕ_discrete k n) (under n f (both_right (f n) (below n f) t) k)
  where
    go : Dec (k ≡ n) → (k < n → T (f k)) → T (f k)
    go (yes e) r = subst (λ (m : ℕ). T (f m)) (sym e) (both_left (f n) (below n f) t)
    go (no d) r = r (omega arith)

-- f and g are the same there
abbrev pub equal : ℕ → (ℕ → ℕ) → (ℕ → ℕ) → Bool
equal n f g = below n (λ k. eqb (f k) (g k))

pub equals : (n : ℕ) (f g : ℕ → ℕ) → T (equal n f g) → (k : ℕ) → k < n → f k ≡ g k
equals n f g t k h = eqb→eq (f k) (g k) (under n (λ j. eqb (f j) (g j)) t k h)

-- each entry of the table is what f gives of its place, counted from i
abbrev pub lists : (ℕ → ℕ) → ℕ → List ℕ → Bool
lists f i [] = true
lists f i (x ∷ xs) = both (eqb x (f i)) (lists f (suc i) xs)

lists-from : (f : ℕ → ℕ) (xs : List ℕ) (i : ℕ) → T (lists f i xs) → (k : ℕ) → k < length xs → get_or xs k 0 ≡ f (i + k)
lists-from f [] i t k h = absurd (not-suc-le-zero h)
lists-from f (x ∷ xs) i t zero h = eqb→eq x (f i) (both_left (eqb x (f i)) (lists f (suc i) xs) t) ∙ ap f (sym (add-zero i))
lists-from f (x ∷ xs) i t (suc k) h =
    lists-from f xs (suc i) (both_right (eqb x (f i)) (lists f (suc i) xs) t) k (le_of_suc-le-suc h)
    ∙ ap f (suc-add i k ∙ sym (add-suc i k))

pub listed : (f : ℕ → ℕ) (xs : List ℕ) → T (lists f 0 xs) → (k : ℕ) → k < length xs → get_or xs k 0 ≡ f k
listed f xs t k h = lists-from f xs 0 t k h ∙ ap f (zero-add k)

-- the first entry is x, and each further entry is the one before it, taken one step
abbrev pub runs : (ℕ → ℕ) → ℕ → List ℕ → Bool
runs step x [] = true
runs step x (y ∷ ys) = both (eqb y x) (runs step (step x) ys)

-- such a table holds the sequence s that begins with the same number and takes the same steps
module _ (step s : ℕ → ℕ) (next : (i : ℕ) → s (suc i) ≡ step (s i)) where
  runs-from : (xs : List ℕ) (i : ℕ) → T (runs step (s i) xs) → (k : ℕ) → k < length xs → get_or xs k 0 ≡ s (i + k)
  runs-from [] i t k h = absurd (not-suc-le-zero h)
  runs-from (x ∷ xs) i t zero h = eqb→eq x (s i) (both_left (eqb x (s i)) (runs step (step (s i)) xs) t) ∙ ap s (sym (add-zero i))
  runs-from (x ∷ xs) i t (suc k) h =
      runs-from xs (suc i)
      (subst (λ (y : ℕ). T (runs step y xs)) (sym (next i)) (both_right (eqb x (s i)) (runs step (step (s i)) xs) t)) k (le_of_suc-le-suc h)
      ∙ ap s (suc-add i k ∙ sym (add-suc i k))

  pub along : (xs : List ℕ) → T (runs step (s 0) xs) → (k : ℕ) → k < length xs → get_or xs k 0 ≡ s k
  along xs t k h = runs-from xs 0 t k h ∙ ap s (zero-add k)
