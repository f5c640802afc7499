-- The places of a walk that a list holds, added to one row.
-- Assumes nothing.
use mathlib.Core.Path.{◌≡◌, refl, sym, ap, ◌∙◌, subst}
use mathlib.Core.Bool.{Bool, true, false}
use mathlib.Core.List.{List}
use Prim.Native.Nat.{ℕ, ◌+◌, ◌<◌}
use native.Mathlib.Omega.{arith}
use lib.Dec.{eqb}
use lib.ListN.{get_or}
use Rattle.field.specs.Choice.{pick}
use Rattle.field.specs.Sum.{sum, unit}
use Rattle.field.proofs.Sums.{sum_same, sum-zero}
use Rattle.headers.specs.Bytes.{Laid}
use Rattle.headers.specs.Tuples.{Bounds}
use Rattle.headers.specs.declared.tuple.Tuple.{Tuple}
use Rattle.constraints.specs.Encoding.{visits}
use Rattle.constraints.specs.Ldpc.{adds}
use Rattle.constraints.specs.Walk.{Walks, places}
use Rattle.constraints.proofs.Distinct.{places-lt}
use Rattle.constraints.proofs.Lists.{places-length}
use Rattle.constraints.proofs.Marks.{walk-held}
use Rattle.builders.specs.Adding.{only}

-- a test that stands in every term may stand before the sum
chosen : (b : Bool) (n : ℕ) (f : ℕ → ℕ) → sum n (λ k. pick b (f k) 0) ≡ pick b (sum n f) 0
chosen true n f = sum_same n (λ k h. refl)
chosen false n f = sum-zero n (λ k h. refl)

module _ (w p p1 : ℕ) (t : Tuple) (s : Walks w p p1) (b : Bounds w p1 t) {old list : List ℕ} (l : Laid (places w p p1 t) old list 0) where
  held : (k : ℕ) → k < t.d + t.d1 → get_or list k 0 ≡ get_or (places w p p1 t) k 0
  held = walk-held w p p1 t l

  pub place-lt : (k : ℕ) → k < t.d + t.d1 → get_or list k 0 < w + p
  place-lt k h = subst (λ (n : ℕ). n < w + p) (sym (held k h)) (places-lt w p p1 t s b k (omega (arith, places-length w p p1 t)))

  pub walk-sum : (i r c : ℕ) → sum (t.d + t.d1) (λ k. adds r c i (get_or list k 0)) ≡ only i (visits (places w p p1 t)) r c
  unfolding adds visits
  walk-sum i r c =
      chosen (eqb r i) (t.d + t.d1) (λ k. unit c (get_or list k 0))
      ∙ ap (λ (n : ℕ). pick (eqb r i) n 0)
      (sum_same (t.d + t.d1) (λ k h. ap (unit c) (held k h))
      ∙ ap (λ (n : ℕ). sum n (λ k. unit c (get_or (places w p p1 t) k 0))) (sym (places-length w p p1 t)))
