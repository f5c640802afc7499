-- The three answers in octets: each excludes the others, every system has one of them, and it settles the set and the shortfall.
-- Assumes nothing.
use mathlib.Core.Path.{◌≡◌, sym, ◌∙◌}
use mathlib.Core.List.{List}
use Prim.Native.Nat.{ℕ, ◌<◌}
use native.Mathlib.Omega.{arith}
use Rattle.linear.specs.System.{System, Answer, contradicted, settled, left_open}
use Rattle.linear.specs.Octets.{octets}
use Rattle.linear.specs.Bytes.{Block, OctetSymbols, in_octets, pack, FitsBytes, SolvedBytes, ContradictionBytes, OpenBytes, ShortfallBytes, AnswerBytes, contradicted-bytes, settled-bytes, left-open-bytes}
use Rattle.linear.proofs.System.{same-sym, solved-same}
use Rattle.linear.proofs.Shortfall.{shortfall-once}
use Rattle.linear.proofs.Existence.{answer}
use Rattle.linear.proofs.Bytes.{block-pack, symbols-pack, solved-bytes, contradiction-bytes, open-bytes}

module _ {L T : ℕ} {S : System ℕ} where
  -- one set only
  pub solved-bytes-once : {C D : List ℕ} → SolvedBytes L T S C → SolvedBytes L T S D → C ≡ D
  solved-bytes-once {C} a b = b.only C a.block a.fits

  -- one shortfall only
  pub shortfall-bytes-once : {s t : ℕ} → ShortfallBytes L T S s → ShortfallBytes L T S t → s ≡ t
  shortfall-bytes-once a b = shortfall-once octets L T a.lacks b.lacks

  -- one answer only
  pub solved-bytes-not-contradiction : {C : List ℕ} → SolvedBytes L T S C → ¬ ContradictionBytes L T S
  solved-bytes-not-contradiction {C} a b = b.none C a.block a.fits

  pub open-bytes-not-contradiction : OpenBytes L T S → ¬ ContradictionBytes L T S
  open-bytes-not-contradiction a b = b.none a.first a.first_block a.first_fits

  pub solved-bytes-not-open : {C : List ℕ} → SolvedBytes L T S C → ¬ OpenBytes L T S
  solved-bytes-not-open a b = b.differ (a.only b.first b.first_block b.first_fits ∙ sym (a.only b.second b.second_block b.second_fits))

  module _ (pos : 0 < T) (small : OctetSymbols T S) where
    -- every system has one of the three
    pub answer-bytes : AnswerBytes L T S
    answer-bytes = go (answer octets L T pos (in_octets S))
      where
        go : Answer octets L T (in_octets S) → AnswerBytes L T S
        go (contradicted c) = contradicted-bytes (contradiction-bytes L T S c)
        go (settled C a z) =
            settled-bytes (pack L T C)
            (solved-bytes L T S small (pack L T C) (block-pack L T C) (solved-same octets L T (same-sym (symbols-pack L T C)) a))
            (record { lacks = z })
        go (left_open s o z p) = left-open-bytes s (open-bytes L T S small o) (record { lacks = z }) p

    -- the shortfall tells a system that is solved from one that is open
    pub solved-bytes-lacks-nothing : {C : List ℕ} → SolvedBytes L T S C → ShortfallBytes L T S 0
    solved-bytes-lacks-nothing a = go answer-bytes
      where
        go : AnswerBytes L T S → ShortfallBytes L T S 0
        go (contradicted-bytes c) = absurd (solved-bytes-not-contradiction a c)
        go (settled-bytes D b z) = z
        go (left-open-bytes s o z p) = absurd (solved-bytes-not-open a o)

    pub open-bytes-lacks : {s : ℕ} → OpenBytes L T S → ShortfallBytes L T S s → 0 < s
    open-bytes-lacks {s} o l = go answer-bytes
      where
        go : AnswerBytes L T S → 0 < s
        go (contradicted-bytes c) = absurd (open-bytes-not-contradiction o c)
        go (settled-bytes D b z) = absurd (solved-bytes-not-open b o)
        go (left-open-bytes u q m h) = let e : s ≡ u = shortfall-bytes-once l m in omega arith

    -- a set that fits a system that lacks nothing is the only one
    pub fits-single : {o : List ℕ} → ShortfallBytes L T S 0 → Block L T o → FitsBytes L T S o → SolvedBytes L T S o
    fits-single {o} l b f = go answer-bytes
      where
        go : AnswerBytes L T S → SolvedBytes L T S o
        go (contradicted-bytes c) = absurd (c.none o b f)
        go (settled-bytes D a z) = let e : o ≡ D = a.only o b f in rw e a
        go (left-open-bytes n x z p) = absurd (let e : n ≡ 0 = shortfall-bytes-once z l in omega arith)
