-- What each verdict says of a system, and of the store that takes the symbols (demand 3; document 01, 'Solver and symbols').
-- Assumes nothing.
use Rattle.std.specs.Prelude.{◌≡◌, List, ℕ, ◌*◌, take}
use Rattle.field.specs.Runs.{Written}
use Rattle.linear.specs.System.{System}
use Rattle.linear.specs.Bytes.{OctetSymbols, SolvedBytes, ContradictionBytes, OpenBytes, ShortfallBytes}
use Rattle.linear.specs.Rows.{OnlyBelow}
use Rattle.linear.specs.Elimination.{Holds}
use Rattle.elimination.specs.declared.verdict.Verdict.{Verdict}
use Rattle.elimination.specs.declared.verdict.Verdict.TheVariants.{Solved, Contradiction, Open}

-- of the system S in L symbols of T octets, with the store before, o, and after, o₁
abbrev pub Means : (L T : ℕ) (S : System ℕ) (o o₁ : List ℕ) → Verdict → Type 0
Means L T S o o₁ Solved = SolvedBytes L T S (take (L * T) o₁) × OnlyBelow (L * T) o o₁
Means L T S o o₁ Contradiction = ContradictionBytes L T S × (o₁ ≡ o)
Means L T S o o₁ (Open s) = OpenBytes L T S × ShortfallBytes L T S s × (o₁ ≡ o)

-- What the elimination leaves: the verdict on whatever system of octets the two stores held, in M equations, the symbols where it is solved, and
-- 0 in the used parts of the stores. Before, a, d and o; after, a₁, d₁ and o₁.
pub record Answered (M L T : ℕ) (a d o a₁ d₁ o₁ : List ℕ) (v : Verdict) : Type 0 where
  pub answer : (S : System ℕ) → OctetSymbols T S → Holds M L T S a d → Means L T S o o₁ v
  pub rows : Written (λ k. 0) a a₁ 0 (M * L)
  pub symbols : Written (λ k. 0) d d₁ 0 (M * T)
