-- The shortfall as a floor (document 02, E9), of two questions of one night with no accepted begin between them: by the accepted packets between them it falls
-- as it does for `solve`, since both are answered by its definition, whatever the number of packets. A packet that was refused counts for nothing.
-- Assumes nothing.
use mathlib.Core.Path.{◌≡◌, refl, subst}
use mathlib.Core.Logic.{◌≢◌, ◌⊎◌, ◌↔◌}
use mathlib.Core.List.{List, [], ◌∷◌, ◌++◌}
use Prim.Native.Nat.{ℕ, suc, ◌+◌, ◌≤◌, ◌<◌}
use native.Mathlib.Omega.{arith}
use Rattle.std.specs.Prelude.{Ok}
use Rattle.elimination.specs.declared.verdict.Verdict.{Verdict}
use Rattle.elimination.specs.declared.verdict.Verdict.TheVariants.{Solved, Open}
use Rattle.intake.specs.Night.{Stretch}
use Rattle.promises.specs.Calls.{Lacks, SameRows, Depends}
use Rattle.promises.specs.Nights.{Event, packet, question, since_begin, stretch, Question, NoBegin, accepted_esis, accepted_count}
use Rattle.promises.proofs.SentRows.{rows_self, rows-first, same-rows-self, same-rows-behind}
use Rattle.promises.proofs.Floor.{one_apart, judged-floor, judged-never-grows, judged-falls-exactly, judged-rows-alone}
use Rattle.promises.proofs.Stretches.{since-continues, judged-on, begun-before, both}

-- Two questions, neither of them answered by a contradiction: the first lacks m, the second n. Between them came ys.
module _ (xs ys : List Event) (o o₁ p p₁ : List ℕ) (w u : Verdict) (m n : ℕ) (b : NoBegin ys)
    (q : Question (xs ++ (question o o₁ (Ok w) ∷ ys)) p p₁ (Ok u)) (x : Lacks w m) (y : Lacks u n) where
  -- the number falls by no more than the packets that were accepted
  pub floor-later : m ≤ accepted_count ys + n
  floor-later =
      let c = both xs ys o o₁ p p₁ w u b q in
      judged-floor m n c.first c.second x y (accepted_esis ys) (rows_self (c.held.esis ++ accepted_esis ys))

  -- and never grows
  pub never-grows-later : n ≤ m
  never-grows-later = let c = both xs ys o o₁ p p₁ w u b q in judged-never-grows m n c.first c.second x y (rows-first c.held.esis (accepted_esis ys))

  -- (a) one accepted packet lowers it by one or leaves it, however many were refused
  pub falls-by-one-later : accepted_count ys ≡ 1 → (n ≡ m) ⊎ (suc n ≡ m)
  falls-by-one-later e = one_apart m n never-grows-later (subst (λ (i : ℕ). m ≤ i + n) e floor-later)

  -- and lowers it exactly when its row does not depend on those that were there, whatever its symbol
  pub falls-exactly-later : (e : ℕ) → accepted_esis ys ≡ e ∷ []
      → (z : Stretch) × (since_begin xs ≡ stretch z) × ((suc n ≡ m) ↔ (¬ Depends z.tables z.row z.k z.esis e))
  falls-exactly-later e one =
      let c = both xs ys o o₁ p p₁ w u b q in
      let z : Stretch = c.held in
      let same : SameRows z.tables z.row z.k (z.esis ++ accepted_esis ys) (z.esis ++ (e ∷ [])) = subst
      (λ (gs : List ℕ). SameRows z.tables z.row z.k (z.esis ++ accepted_esis ys) (z.esis ++ gs)) one (same-rows-self (z.esis ++ accepted_esis ys)) in
      (z, c.is, judged-falls-exactly m n c.first c.second x y e same)

-- (b) an open m is never followed by solved before m packets more were accepted
module _ (xs ys : List Event) (o o₁ p p₁ : List ℕ) (m : ℕ) (b : NoBegin ys) where
  pub solved-floor-later : Question (xs ++ (question o o₁ (Ok (Open m)) ∷ ys)) p p₁ (Ok Solved) → m ≤ accepted_count ys
  solved-floor-later q = let h : m ≤ accepted_count ys + 0 = floor-later xs ys o o₁ p p₁ (Open m) Solved m 0 b q refl refl in omega arith

  pub not-before-later : (u : Verdict) → accepted_count ys < m → Question (xs ++ (question o o₁ (Ok (Open m)) ∷ ys)) p p₁ (Ok u) → u ≢ Solved
  not-before-later u l q e =
      let h : m ≤ accepted_count ys = solved-floor-later (subst (λ (x : Verdict). Question (xs ++ (question o o₁ (Ok (Open m)) ∷ ys)) p p₁ (Ok x)) e q) in
      omega arith

-- (c) The calls xs came, and then ys, or else zs, with no accepted begin: the rows of the packets that were accepted decide the number, not their symbols,
-- if neither is a contradiction.
module _ (xs ys zs : List Event) (o o₁ p p₁ : List ℕ) (w u : Verdict) (m n : ℕ) where
  pub rows-alone-later : (z : Stretch) → since_begin xs ≡ stretch z → SameRows z.tables z.row z.k (accepted_esis ys) (accepted_esis zs)
      → NoBegin ys → NoBegin zs → Question (xs ++ ys) o o₁ (Ok w) → Question (xs ++ zs) p p₁ (Ok u) → Lacks w m → Lacks u n → m ≡ n
  rows-alone-later z is same f g a b x y =
      judged-rows-alone m n (judged-on a (since-continues xs ys z f is)) (judged-on b (since-continues xs zs z g is)) x y (same-rows-behind z.esis same)

  -- so of the same ESIs
  pub symbols-alone-later : accepted_esis ys ≡ accepted_esis zs → NoBegin ys → NoBegin zs
      → Question (xs ++ ys) o o₁ (Ok w) → Question (xs ++ zs) p p₁ (Ok u) → Lacks w m → Lacks u n → m ≡ n
  symbols-alone-later e f g a b x y =
      let d = begun-before xs ys f a in
      let z : Stretch = d.0 in
      rows-alone-later z d.1
      (subst (SameRows z.tables z.row z.k (accepted_esis ys)) e (same-rows-self (accepted_esis ys))) f g a b x y

-- and of one packet with two symbols for its ESI
pub two-symbols-later : (xs : List Event) (e : ℕ) (s r o o₁ p p₁ : List ℕ) (w u : Verdict) (m n : ℕ)
    → Question (xs ++ (packet e s (Ok tt) ∷ [])) o o₁ (Ok w) → Question (xs ++ (packet e r (Ok tt) ∷ [])) p p₁ (Ok u) → Lacks w m → Lacks u n → m ≡ n
two-symbols-later xs e s r o o₁ p p₁ w u m n =
    symbols-alone-later xs (packet e s (Ok tt) ∷ []) (packet e r (Ok tt) ∷ []) o o₁ p p₁ w u m n refl tt tt
