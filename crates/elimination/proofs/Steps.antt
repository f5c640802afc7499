-- Room for the equations, and the pivots that are passed over by a search along a row.
-- Assumes nothing.
use mathlib.Core.Path.{◌≡◌, subst}
use mathlib.Core.List.{List}
use Prim.Native.Nat.{ℕ, ◌+◌, ◌≤◌, ◌<◌}
use native.Mathlib.Nat.{mul-le-mul_right}
use native.Mathlib.Decide.{dec_lt}
use native.Mathlib.Omega.{arith}
use lib.ListN.{length, get_or}
use Rattle.elimination.specs.Steps.{StoresRoom, Passed, column}

pub room-kept : {n L T : ℕ} {a d a₁ d₁ : List ℕ} → StoresRoom n L T a d → length a₁ ≡ length a → length d₁ ≡ length d → StoresRoom n L T a₁ d₁
room-kept h p q = record { rows = omega (arith, h.rows); symbols = omega (arith, h.symbols) }

pub room-less : {n m L T : ℕ} {a d : List ℕ} → n ≤ m → StoresRoom m L T a d → StoresRoom n L T a d
room-less {L = L} {T = T} l h = record { rows = omega (arith, h.rows, mul-le-mul_right L l); symbols = omega (arith, h.symbols, mul-le-mul_right T l) }

pub passed_none : (xs ps : List ℕ) {k r : ℕ} → k ≤ r → Passed xs ps k r k
passed_none xs ps h = record { least = omega arith; most = h; zeros = λ j b l. absurd (omega arith) }

pub passed-more : {xs ps : List ℕ} {k r x : ℕ} → Passed xs ps k r x → x < r → get_or xs (column ps x) 0 ≡ 0 → Passed xs ps k r (x + 1)
passed-more {xs} {ps} {k} {x = x} p h z = record { least = (let q = p.least in omega arith); most = omega arith; zeros = λ j b l. go j b (dec_lt j x) l }
  where
    go : (j : ℕ) → k ≤ j → Dec (j < x) → j < x + 1 → get_or xs (column ps j) 0 ≡ 0
    go j b (yes l) q = p.zeros j b l
    go j b (no l) q = let e : x ≡ j = omega arith in subst (λ (i : ℕ). get_or xs (column ps i) 0 ≡ 0) e z
