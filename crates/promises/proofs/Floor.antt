-- The shortfall as a floor (document 02, E9), of two answers with one row, tables, K and T: an arrival that makes no contradiction lowers it by one or leaves
-- it, an open m is never followed by solved after fewer than m more, and the rows of the ESIs alone decide it, not the symbols. It is so by the definition,
-- whatever the number of arrivals (`judged-..`), and so of two calls of `solve`.
-- Assumes nothing.
use mathlib.Core.Path.{◌≡◌, refl, sym, subst}
use mathlib.Core.Logic.{◌≢◌, ◌⊎◌, inl, inr, ◌↔◌}
use mathlib.Core.List.{List, [], ◌∷◌, ◌++◌}
use Prim.Native.Nat.{ℕ, zero, suc, ◌+◌, ◌≤◌, ◌<◌}
use native.Mathlib.Decide.{ℕ_discrete}
use native.Mathlib.Omega.{arith}
use lib.ListN.{length, get_or}
use Rattle.std.specs.Prelude.{Ok}
use Rattle.headers.specs.Row.{l_of}
use Rattle.headers.specs.declared.row.Row.{Row}
use Rattle.linear.specs.Bytes.{ShortfallBytes}
use Rattle.linear.proofs.Joined.{included-then, shortfall-floor, shortfall-stays}
use Rattle.elimination.specs.declared.verdict.Verdict.{Verdict}
use Rattle.elimination.specs.declared.verdict.Verdict.TheVariants.{Solved, Contradiction, Open}
use Rattle.solver.specs.System.{arrival_rows, system_of}
use Rattle.promises.specs.Calls.{Call, Judged, Lacks, SameRow, RowsAmong, SameRows, Depends}
use Rattle.promises.proofs.Exactly.{call-judged, open-not-solved, judged-solved-shortfall, judged-shortfall-positive}
use Rattle.promises.proofs.SentRows.{rows_self, rows_then, rows-first, rows-included, rows-parted, rows-joined}
use Rattle.promises.proofs.SentRows.{same-rows-self, same-rows-one, same-rows-behind}

-- no greater, and smaller by one at most
pub one_apart : (m n : ℕ) → n ≤ m → m ≤ 1 + n → (n ≡ m) ⊎ (suc n ≡ m)
one_apart m n h l = go (ℕ_discrete n m)
  where
    go : Dec (n ≡ m) → (n ≡ m) ⊎ (suc n ≡ m)
    go (yes q) = inl q
    go (no q) = inr (omega arith)

module _ {v : List ℕ} {r : Row} {k t : ℕ} {es xs o o₁ : List ℕ} {w : Verdict} (m : ℕ) (c : Judged r v k t es xs o o₁ w) (a : Lacks w m) where
  -- what an answer lacks is the shortfall of its system
  lacks-shortfall : ShortfallBytes (l_of r) t (system_of r v k t es xs) m
  lacks-shortfall = go w c a
    where
      go : (x : Verdict) → Judged r v k t es xs o o₁ x → Lacks x m → ShortfallBytes (l_of r) t (system_of r v k t es xs) m
      go Solved d e = subst (ShortfallBytes (l_of r) t (system_of r v k t es xs)) (sym e) (judged-solved-shortfall d)
      go Contradiction d e = absurd e
      go (Open s) d e = subst (ShortfallBytes (l_of r) t (system_of r v k t es xs)) (sym e) d.means.1

  -- 0 says solved, and nothing else does
  pub judged-lacks-nothing : (m ≡ 0) ↔ (w ≡ Solved)
  judged-lacks-nothing = go w c a
    where
      go : (x : Verdict) → Judged r v k t es xs o o₁ x → Lacks x m → (m ≡ 0) ↔ (x ≡ Solved)
      go Solved d e = (λ _. refl, λ _. e)
      go Contradiction d e = absurd e
      go (Open s) d e = (λ z. absurd (let q : 0 < s = judged-shortfall-positive d in omega arith), λ z. absurd (open-not-solved z))

-- Two answers, the ESIs es and fs, neither of them a contradiction: the first lacks m, the second n.
module _ {v : List ℕ} {r : Row} {k t : ℕ} {es xs fs ys o o₁ p p₁ : List ℕ} {w u : Verdict} (m n : ℕ)
    (c : Judged r v k t es xs o o₁ w) (d : Judged r v k t fs ys p p₁ u) (a : Lacks w m) (b : Lacks u n) where
  -- arrivals more lower the number by no more than they are
  pub judged-floor : (gs : List ℕ) → RowsAmong v r k fs (es ++ gs) → m ≤ length gs + n
  judged-floor gs f =
      shortfall-floor (system_of r v k t es xs) (arrival_rows v r k t gs []) (included-then (rows-included t ys [] f) (rows-parted v r k t es xs gs [] []))
      (lacks-shortfall m c a) (lacks-shortfall n d b)

  -- the number stays exactly when each of their rows depends on those that were there
  pub judged-stays-exactly : (gs : List ℕ) → SameRows v r k fs (es ++ gs) → (n ≡ m) ↔ ((i : ℕ) → i < length gs → Depends v r k es (get_or gs i 0))
  judged-stays-exactly gs f =
      shortfall-stays (system_of r v k t es xs) (arrival_rows v r k t gs []) (included-then (rows-included t ys [] f.to) (rows-parted v r k t es xs gs [] []))
      (lacks-shortfall m c a) (lacks-shortfall n d b)
      (included-then (rows-joined v r k t es xs gs [] []) (rows-included t [] ys f.back))

module _ {v : List ℕ} {r : Row} {k t : ℕ} {es xs fs ys o o₁ p p₁ : List ℕ} {w u : Verdict} (m n : ℕ)
    (c : Judged r v k t es xs o o₁ w) (d : Judged r v k t fs ys p p₁ u) (a : Lacks w m) (b : Lacks u n) where
  -- more rows, no greater number
  pub judged-never-grows : RowsAmong v r k es fs → n ≤ m
  judged-never-grows f = let h : n ≤ 0 + m = judged-floor n m d c b a [] (rows_then f (rows-first fs [])) in omega arith

  -- (a) one arrival more lowers it by one or leaves it
  pub judged-falls-by-one : (e : ℕ) → SameRows v r k fs (es ++ (e ∷ [])) → (n ≡ m) ⊎ (suc n ≡ m)
  judged-falls-by-one e f = one_apart m n (judged-never-grows (rows_then (rows-first es (e ∷ [])) f.back)) (judged-floor m n c d a b (e ∷ []) f.to)

  -- and lowers it exactly when its row does not depend on those that were there, whatever its symbol
  pub judged-falls-exactly : (e : ℕ) → SameRows v r k fs (es ++ (e ∷ [])) → (suc n ≡ m) ↔ (¬ Depends v r k es e)
  judged-falls-exactly e f = (λ q x. absurd (let h : n ≡ m = s.1 (one x) in omega arith), λ x. go x (judged-falls-by-one e f))
    where
      s : (n ≡ m) ↔ ((i : ℕ) → i < 1 → Depends v r k es (get_or (e ∷ []) i 0))
      s = judged-stays-exactly m n c d a b (e ∷ []) f

      one : Depends v r k es e → (i : ℕ) → i < 1 → Depends v r k es (get_or (e ∷ []) i 0)
      one x zero h = x
      one x (suc i) h = absurd (omega arith)

      go : ¬ Depends v r k es e → (n ≡ m) ⊎ (suc n ≡ m) → suc n ≡ m
      go x (inl q) = absurd (x (s.0 q 0 (omega arith)))
      go x (inr q) = q

  -- (c) the rows alone decide the number
  pub judged-rows-alone : SameRows v r k es fs → m ≡ n
  judged-rows-alone f =
      let h : n ≤ m = judged-never-grows f.to in
      let l : m ≤ 0 + n = judged-floor m n c d a b [] (rows_then f.back (rows-first es [])) in
      omega arith

-- (b) an open m is never followed by solved after fewer than m more, whatever symbols they bring
module _ {v : List ℕ} {r : Row} {k t : ℕ} {es xs fs ys o o₁ p p₁ : List ℕ} {m : ℕ} (gs : List ℕ) (c : Judged r v k t es xs o o₁ (Open m)) where
  pub judged-solved-floor : RowsAmong v r k fs (es ++ gs) → Judged r v k t fs ys p p₁ Solved → m ≤ length gs
  judged-solved-floor f d = let h : m ≤ length gs + 0 = judged-floor m 0 c d refl refl gs f in omega arith

  pub judged-not-before : RowsAmong v r k fs (es ++ gs) → length gs < m → (u : Verdict) → Judged r v k t fs ys p p₁ u → u ≢ Solved
  judged-not-before f l u d e = let h : m ≤ length gs = judged-solved-floor f (subst (λ (x : Verdict). Judged r v k t fs ys p p₁ x) e d) in omega arith

-- (c) of one arrival behind the same ones: two ESIs of one row, with whatever symbols, leave the same number where neither makes a contradiction
module _ {v : List ℕ} {r : Row} {k t : ℕ} (es : List ℕ) {xs ys o o₁ p p₁ : List ℕ} {w u : Verdict} (m n : ℕ) where
  pub judged-row-alone : {e f : ℕ} → SameRow v r k e f → Judged r v k t (es ++ (e ∷ [])) xs o o₁ w → Judged r v k t (es ++ (f ∷ [])) ys p p₁ u
      → Lacks w m → Lacks u n → m ≡ n
  judged-row-alone q c d a b = judged-rows-alone m n c d a b (same-rows-behind es (same-rows-one q))

  -- so do two symbols for one ESI
  pub judged-two-symbols : (e : ℕ) → Judged r v k t (es ++ (e ∷ [])) xs o o₁ w → Judged r v k t (es ++ (e ∷ [])) ys p p₁ u → Lacks w m → Lacks u n → m ≡ n
  judged-two-symbols e c d a b = judged-rows-alone m n c d a b (same-rows-self (es ++ (e ∷ [])))

-- ---- arrivals behind those that were there

-- (a) of one, with whatever symbols
pub judged-one-more : {v : List ℕ} {r : Row} {k t : ℕ} (es : List ℕ) {xs ys o o₁ p p₁ : List ℕ} {w u : Verdict} (m n e : ℕ) → Judged r v k t es xs o o₁ w
    → Judged r v k t (es ++ (e ∷ [])) ys p p₁ u → Lacks w m → Lacks u n → (n ≡ m) ⊎ (suc n ≡ m)
judged-one-more es m n e c d a b = judged-falls-by-one m n c d a b e (same-rows-self (es ++ (e ∷ [])))

module _ {v : List ℕ} {r : Row} {k t : ℕ} {es xs o o₁ p p₁ : List ℕ} {s : ℕ} (gs ys : List ℕ) (c : Judged r v k t es xs o o₁ (Open s)) where
  -- n arrivals more, with whatever symbols, lower the shortfall by n at most
  pub judged-more-lower : {u : ℕ} → Judged r v k t (es ++ gs) ys p p₁ (Open u) → s ≤ length gs + u
  judged-more-lower {u} d = judged-floor s u c d refl refl gs (rows_self (es ++ gs))

  -- so open with shortfall s is not solved by fewer than s more
  pub judged-more-needed : Judged r v k t (es ++ gs) ys p p₁ Solved → s ≤ length gs
  judged-more-needed d = judged-solved-floor gs c (rows_self (es ++ gs)) d

-- ---- of a call

module _ {v : List ℕ} {r : Row} {k t : ℕ} {es xs o o₁ : List ℕ} {w : Verdict} (m : ℕ) (c : Call r v k t es xs o o₁ (Ok w)) (a : Lacks w m) where
  pub lacks-nothing : (m ≡ 0) ↔ (w ≡ Solved)
  lacks-nothing = judged-lacks-nothing m (call-judged c) a

-- ---- of two calls

module _ {v : List ℕ} {r : Row} {k t : ℕ} {es xs fs ys o o₁ p p₁ : List ℕ} {w u : Verdict} (m n : ℕ)
    (c : Call r v k t es xs o o₁ (Ok w)) (d : Call r v k t fs ys p p₁ (Ok u)) (a : Lacks w m) (b : Lacks u n) where
  pub floor : (gs : List ℕ) → RowsAmong v r k fs (es ++ gs) → m ≤ length gs + n
  floor = judged-floor m n (call-judged c) (call-judged d) a b

  pub stays-exactly : (gs : List ℕ) → SameRows v r k fs (es ++ gs) → (n ≡ m) ↔ ((i : ℕ) → i < length gs → Depends v r k es (get_or gs i 0))
  stays-exactly = judged-stays-exactly m n (call-judged c) (call-judged d) a b

  pub never-grows : RowsAmong v r k es fs → n ≤ m
  never-grows = judged-never-grows m n (call-judged c) (call-judged d) a b

  pub falls-by-one : (e : ℕ) → SameRows v r k fs (es ++ (e ∷ [])) → (n ≡ m) ⊎ (suc n ≡ m)
  falls-by-one = judged-falls-by-one m n (call-judged c) (call-judged d) a b

  pub falls-exactly : (e : ℕ) → SameRows v r k fs (es ++ (e ∷ [])) → (suc n ≡ m) ↔ (¬ Depends v r k es e)
  falls-exactly = judged-falls-exactly m n (call-judged c) (call-judged d) a b

  pub rows-alone : SameRows v r k es fs → m ≡ n
  rows-alone = judged-rows-alone m n (call-judged c) (call-judged d) a b

module _ {v : List ℕ} {r : Row} {k t : ℕ} {es xs fs ys o o₁ p p₁ : List ℕ} {m : ℕ} (gs : List ℕ) (c : Call r v k t es xs o o₁ (Ok (Open m))) where
  pub solved-floor : RowsAmong v r k fs (es ++ gs) → Call r v k t fs ys p p₁ (Ok Solved) → m ≤ length gs
  solved-floor f d = judged-solved-floor gs (call-judged c) f (call-judged d)

  pub not-before : RowsAmong v r k fs (es ++ gs) → length gs < m → (u : Verdict) → Call r v k t fs ys p p₁ (Ok u) → u ≢ Solved
  not-before f l u d = judged-not-before gs (call-judged c) f l u (call-judged d)

module _ {v : List ℕ} {r : Row} {k t : ℕ} (es : List ℕ) {xs ys o o₁ p p₁ : List ℕ} {w u : Verdict} (m n : ℕ) where
  pub row-alone : {e f : ℕ} → SameRow v r k e f → Call r v k t (es ++ (e ∷ [])) xs o o₁ (Ok w) → Call r v k t (es ++ (f ∷ [])) ys p p₁ (Ok u)
      → Lacks w m → Lacks u n → m ≡ n
  row-alone q c d a b = judged-row-alone es m n q (call-judged c) (call-judged d) a b

  pub two-symbols : (e : ℕ) → Call r v k t (es ++ (e ∷ [])) xs o o₁ (Ok w) → Call r v k t (es ++ (e ∷ [])) ys p p₁ (Ok u) → Lacks w m → Lacks u n → m ≡ n
  two-symbols e c d a b = judged-two-symbols es m n e (call-judged c) (call-judged d) a b

pub one_more : {v : List ℕ} {r : Row} {k t : ℕ} (es : List ℕ) {xs ys o o₁ p p₁ : List ℕ} {w u : Verdict} (m n e : ℕ) → Call r v k t es xs o o₁ (Ok w)
    → Call r v k t (es ++ (e ∷ [])) ys p p₁ (Ok u) → Lacks w m → Lacks u n → (n ≡ m) ⊎ (suc n ≡ m)
one_more es m n e c d a b = judged-one-more es m n e (call-judged c) (call-judged d) a b

module _ {v : List ℕ} {r : Row} {k t : ℕ} {es xs o o₁ p p₁ : List ℕ} {s : ℕ} (gs ys : List ℕ) (c : Call r v k t es xs o o₁ (Ok (Open s))) where
  pub more-lower : {u : ℕ} → Call r v k t (es ++ gs) ys p p₁ (Ok (Open u)) → s ≤ length gs + u
  more-lower d = judged-more-lower gs ys (call-judged c) (call-judged d)

  pub more-needed : Call r v k t (es ++ gs) ys p p₁ (Ok Solved) → s ≤ length gs
  more-needed d = judged-more-needed gs ys (call-judged c) (call-judged d)
