-- Growth: two answers with one row, tables, K and T, where every arrival of the first is among those of the second, in any order and number: by the
-- definition, whatever that number (`judged-..`), and so of two calls.
-- Assumes nothing.
use mathlib.Core.Path.{◌≡◌, refl}
use mathlib.Core.Logic.{◌⊎◌, inl, inr}
use mathlib.Core.List.{List}
use Prim.Native.Nat.{ℕ, ◌≤◌}
use Rattle.std.specs.Prelude.{Ok}
use Rattle.headers.specs.declared.row.Row.{Row}
use Rattle.linear.proofs.Growth.{contradiction-remains, solved-same-bytes, solved-never-opens, shortfall-shrinks}
use Rattle.linear.proofs.AnswersBytes.{solved-bytes-not-contradiction, open-bytes-not-contradiction}
use Rattle.elimination.specs.declared.verdict.Verdict.{Verdict}
use Rattle.elimination.specs.declared.verdict.Verdict.TheVariants.{Solved, Contradiction, Open}
use Rattle.promises.specs.Calls.{Call, Judged, Among, set_in}
use Rattle.promises.proofs.Equations.{among-equations}
use Rattle.promises.proofs.Exactly.{call-judged}

module _ {v : List ℕ} {r : Row} {k t : ℕ} {es xs fs ys o o₁ p p₁ : List ℕ} (m : Among t es xs fs ys) where
  -- solved stays solved with the same bytes, or becomes a contradiction; it is never open again
  pub judged-solved-then : Judged r v k t es xs o o₁ Solved → (w : Verdict) → Judged r v k t fs ys p p₁ w
      → ((w ≡ Solved) × (set_in r t p₁ ≡ set_in r t o₁)) ⊎ (w ≡ Contradiction)
  judged-solved-then c Solved d = inl (refl, solved-same-bytes (among-equations v r k t m) c.means.0 d.means.0)
  judged-solved-then c Contradiction d = inr refl
  judged-solved-then c (Open s) d = absurd (solved-never-opens (among-equations v r k t m) c.means.0 d.means.0)

  -- a contradiction stays one
  pub judged-contradiction-then : Judged r v k t es xs o o₁ Contradiction → (w : Verdict) → Judged r v k t fs ys p p₁ w → w ≡ Contradiction
  judged-contradiction-then c Solved d = absurd (solved-bytes-not-contradiction d.means.0 (contradiction-remains (among-equations v r k t m) c.means.0))
  judged-contradiction-then c Contradiction d = refl
  judged-contradiction-then c (Open s) d = absurd (open-bytes-not-contradiction d.means.0 (contradiction-remains (among-equations v r k t m) c.means.0))

  -- open becomes anything, and a shortfall that is left is no greater
  pub judged-open-then : {s : ℕ} → Judged r v k t es xs o o₁ (Open s) → (w : Verdict) → Judged r v k t fs ys p p₁ w
      → (w ≡ Solved) ⊎ ((w ≡ Contradiction) ⊎ ((u : ℕ) × (w ≡ Open u) × (u ≤ s)))
  judged-open-then c Solved d = inl refl
  judged-open-then c Contradiction d = inr (inl refl)
  judged-open-then c (Open u) d = inr (inr (u, refl, shortfall-shrinks (among-equations v r k t m) c.means.1 d.means.1))

  -- ---- of two calls

  pub solved-then : Call r v k t es xs o o₁ (Ok Solved) → (w : Verdict) → Call r v k t fs ys p p₁ (Ok w)
      → ((w ≡ Solved) × (set_in r t p₁ ≡ set_in r t o₁)) ⊎ (w ≡ Contradiction)
  solved-then c w d = judged-solved-then (call-judged c) w (call-judged d)

  pub contradiction-then : Call r v k t es xs o o₁ (Ok Contradiction) → (w : Verdict) → Call r v k t fs ys p p₁ (Ok w) → w ≡ Contradiction
  contradiction-then c w d = judged-contradiction-then (call-judged c) w (call-judged d)

  pub open-then : {s : ℕ} → Call r v k t es xs o o₁ (Ok (Open s)) → (w : Verdict) → Call r v k t fs ys p p₁ (Ok w)
      → (w ≡ Solved) ⊎ ((w ≡ Contradiction) ⊎ ((u : ℕ) × (w ≡ Open u) × (u ≤ s)))
  open-then c w d = judged-open-then (call-judged c) w (call-judged d)
