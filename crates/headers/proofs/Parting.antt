-- What RFC 6330, 4.4.1.2, promises of a partition: the parts are j and make up i, and no two differ by more than one.
-- Assumes nothing.
use Rattle.std.proofs.Common.{◌≡◌, ℕ, ◌+◌, ◌-◌, ◌*◌, ◌/◌, ◌%◌, ◌<◌, ◌≤◌, eqb, List, [], ◌∷◌, get_or, sym, ap, ◌∙◌, subst, mod-lt, add-mul, one-mul, div-add-mod', mul-add, arith}
use native.Mathlib.Decide.{ℕ_discrete}
use borrow.Author.Tests.{eqb-false}
use Rattle.field.specs.Answer.{given}
use Rattle.field.proofs.Answers.{given-only}
use Rattle.field.proofs.Refusals.{passed}
use Rattle.headers.specs.Partition.{parts, partitioned}
use Rattle.headers.specs.Quotient.{ceil}
use Rattle.headers.proofs.Quotient.{ceil-exact, ceil-more}

pub record Partitions (i j il is jl js : ℕ) : Type 0 where
  pub count : jl + js ≡ j
  pub whole : il * jl + is * js ≡ i
  pub less : is ≤ il
  pub near : il ≤ is + 1

module _ (i j : ℕ) (h : 0 < j) where
  pub partitions : Partitions i j (ceil i j) (i / j) (i - i / j * j) (j - (i - i / j * j))
  partitions = go (ℕ_discrete (i % j) 0)
    where
      r : i - i / j * j ≡ i % j
      r = omega (arith, div-add-mod' i j)

      -- q·j in two parts, q·jl and q·js
      split : i / j * (i - i / j * j) + i / j * (j - (i - i / j * j)) ≡ i / j * j
      split =
          let e : i - i / j * j + (j - (i - i / j * j)) ≡ j = omega (arith, r, mod-lt i h) in
          sym (mul-add (i / j) (i - i / j * j) (j - (i - i / j * j))) ∙ ap (λ (x : ℕ). i / j * x) e

      go : Dec (i % j ≡ 0) → Partitions i j (ceil i j) (i / j) (i - i / j * j) (j - (i - i / j * j))
      go (yes e) =
          subst (λ (x : ℕ). Partitions i j x (i / j) (i - i / j * j) (j - (i - i / j * j))) (ceil-exact i j h e)
          (record { count = omega (arith, r); whole = split ∙ omega (arith, r, div-add-mod' i j); less = omega arith; near = omega arith })
      go (no d) =
          subst (λ (x : ℕ). Partitions i j x (i / j) (i - i / j * j) (j - (i - i / j * j))) (ceil-more i j h d)
          (record {
            count = omega (arith, r, mod-lt i h);
            whole = omega (arith, split, r, div-add-mod' i j, add-mul (i / j) 1 (i - i / j * j), one-mul (i - i / j * j));
            less = omega arith;
            near = omega arith;
          })

-- so of whatever the contract lets `partition` give: it is this one
pub only_parts : (i j : ℕ) (xs : List ℕ) → partitioned i j ≡ given xs → parts i j ≡ xs
only_parts i j xs e = given-only (parts i j) xs (passed (eqb j 0) 2 (given (parts i j)) xs e).1

pub partition-parts : (i j il is jl js : ℕ) → partitioned i j ≡ given (il ∷ is ∷ jl ∷ js ∷ []) → Partitions i j il is jl js
partition-parts i j il is jl js e =
    let d : j ≡ 0 → ⊥ = eqb-false j 0 (passed (eqb j 0) 2 (given (parts i j)) (il ∷ is ∷ jl ∷ js ∷ []) e).0 in
    subst (λ (x : List ℕ). Partitions i j (get_or x 0 0) (get_or x 1 0) (get_or x 2 0) (get_or x 3 0)) (only_parts i j _ e) (partitions i j (omega (arith, d)))
