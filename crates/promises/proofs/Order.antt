-- Neither the order of arrivals nor their repetition counts: where they are among each other's, the answers are alike, by the definition, whatever the number
-- of arrivals (`judged-..`), and so of two calls.
-- Assumes nothing.
use mathlib.Core.Path.{◌≡◌, sym, ◌∙◌, subst}
use mathlib.Core.List.{List}
use Prim.Native.Nat.{ℕ, ◌*◌}
use lib.ListN.{take}
use Rattle.std.specs.Prelude.{Ok}
use Rattle.headers.specs.Row.{l_of}
use Rattle.headers.specs.declared.row.Row.{Row}
use Rattle.linear.specs.System.{System, Included}
use Rattle.linear.proofs.Growth.{same-solved, same-contradiction, same-open, same-shortfall}
use Rattle.linear.proofs.AnswersBytes.{solved-bytes-once}
use Rattle.elimination.specs.Verdict.{Means}
use Rattle.elimination.specs.declared.verdict.Verdict.{Verdict}
use Rattle.elimination.specs.declared.verdict.Verdict.TheVariants.{Solved, Contradiction, Open}
use Rattle.elimination.proofs.Once.{verdict-once, means-once}
use Rattle.solver.specs.System.{system_of}
use Rattle.promises.specs.Calls.{Call, Judged, Among, set_in}
use Rattle.promises.proofs.Equations.{among-equations}
use Rattle.promises.proofs.Exactly.{call-judged}

-- one verdict serves both systems
means-same : {L T : ℕ} {S R : System ℕ} (o o₁ : List ℕ) → Included L T S R → Included L T R S → (w : Verdict) → Means L T S o o₁ w → Means L T R o o₁ w
means-same o o₁ f g Solved m = (same-solved f g m.0, m.1)
means-same o o₁ f g Contradiction m = (same-contradiction f g m.0, m.1)
means-same o o₁ f g (Open s) m = (same-open f g m.0, same-shortfall f g m.1, m.2)

-- where both are solved, the sets are one
set-once : (L T : ℕ) (S : System ℕ) (o o₁ p p₁ : List ℕ) (w u : Verdict) → w ≡ Solved → u ≡ Solved → Means L T S o o₁ w → Means L T S p p₁ u
    → take (L * T) o₁ ≡ take (L * T) p₁
set-once L T S o o₁ p p₁ w u e f a b =
    solved-bytes-once (subst (λ (x : Verdict). Means L T S o o₁ x) e a).0 (subst (λ (x : Verdict). Means L T S p p₁ x) f b).0

means-other : {v : List ℕ} {r : Row} {k t : ℕ} {es xs fs ys o o₁ : List ℕ} → Among t es xs fs ys → Among t fs ys es xs → (w : Verdict)
    → Judged r v k t es xs o o₁ w → Means (l_of r) t (system_of r v k t fs ys) o o₁ w
means-other {v} {r} {k} {t} {o = o} {o₁ = o₁} to back w c = means-same o o₁ (among-equations v r k t to) (among-equations v r k t back) w c.means

module _ {v : List ℕ} {r : Row} {k t : ℕ} {es xs fs ys o o₁ p p₁ : List ℕ} (to : Among t es xs fs ys) (back : Among t fs ys es xs) where
  -- the verdict with its shortfall, and the set
  pub judged-order-free : (w u : Verdict) → Judged r v k t es xs o o₁ w → Judged r v k t fs ys p p₁ u
      → (w ≡ u) × (w ≡ Solved → set_in r t o₁ ≡ set_in r t p₁)
  judged-order-free w u c d =
      let S : System ℕ = system_of r v k t fs ys in
      let m = means-other to back w c in
      let q = verdict-once (l_of r) t S o o₁ p p₁ w u m d.means in
      (q, λ e. set-once (l_of r) t S o o₁ p p₁ w u e (sym q ∙ e) m d.means)

  -- and the whole out store, if it was the same before
  pub judged-order-free-out : o ≡ p → (w u : Verdict) → Judged r v k t es xs o o₁ w → Judged r v k t fs ys p p₁ u → o₁ ≡ p₁
  judged-order-free-out e w u c d =
      (means-once (l_of r) t (system_of r v k t fs ys) o o₁ p₁ w u (means-other to back w c)
      (subst (λ (q : List ℕ). Means (l_of r) t (system_of r v k t fs ys) q p₁ u) (sym e) d.means)).1

  -- ---- of two calls

  pub order-free : (w u : Verdict) → Call r v k t es xs o o₁ (Ok w) → Call r v k t fs ys p p₁ (Ok u)
      → (w ≡ u) × (w ≡ Solved → set_in r t o₁ ≡ set_in r t p₁)
  order-free w u c d = judged-order-free w u (call-judged c) (call-judged d)

  pub order-free-out : o ≡ p → (w u : Verdict) → Call r v k t es xs o o₁ (Ok w) → Call r v k t fs ys p p₁ (Ok u) → o₁ ≡ p₁
  order-free-out e w u c d = judged-order-free-out e w u (call-judged c) (call-judged d)
