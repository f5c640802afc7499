-- RFC 6330, 4.4.1.2: Partition[I, J].
-- Assumes nothing.
use Rattle.std.specs.Prelude.{◌≡◌, ℕ, ◌+◌, ◌-◌, ◌*◌, ◌/◌, ◌≤◌, List, Result, [], ◌∷◌, ◌==◌}
use Rattle.field.specs.Answer.{Outcome, given, unless, outcome_of}
use Rattle.headers.specs.Quotient.{ceil}
use Rattle.field.specs.declared.refusal.Refusal.{Refusal}
use Rattle.headers.specs.declared.partition.Parts.{Parts}

-- IL, IS, JL, JS: i in j parts, of which JL have the size IL and JS the size IS
abbrev pub parts : ℕ → ℕ → List ℕ
parts i j = ceil i j ∷ i / j ∷ (i - i / j * j) ∷ (j - (i - i / j * j)) ∷ []

abbrev pub partition_outcome : Result Parts Refusal → Outcome (List ℕ)
partition_outcome = outcome_of (λ p. p.il ∷ p.is ∷ p.jl ∷ p.js ∷ [])

abbrev pub partitioned : ℕ → ℕ → Outcome (List ℕ)
partitioned i j = unless (j == 0) 2 (given (parts i j))

-- of transmission information that the check accepts: a symbol's T/Al units in N sub-symbols (`sub-symbols`), JL of IL units and JS of IS, each of at
-- least a byte, and together the symbol
pub record SubSymbols (t n al il is jl js : ℕ) : Type 0 where
  pub count : jl + js ≡ n
  pub whole : (il * jl + is * js) * al ≡ t
  pub large : 1 ≤ il * al
  pub small : 1 ≤ is * al

-- and the object's ceil(F/T) symbols in Z blocks (`blocks`), ZL of KL symbols and ZS of KS, none above the largest K'
pub record Blocks (f t z kl ks zl zs : ℕ) : Type 0 where
  pub count : zl + zs ≡ z
  pub whole : kl * zl + ks * zs ≡ ceil f t
  pub large : kl ≤ 56403
  pub small : ks ≤ 56403
