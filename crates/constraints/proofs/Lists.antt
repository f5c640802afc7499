-- The two lists of places, and the walk of both: how long they are, and what stands where.
-- Assumes nothing.
use mathlib.Core.Path.{◌≡◌, refl, sym, ap, ap₂, ◌∙◌}
use Prim.Native.Nat.{ℕ, zero, suc, ◌+◌, ◌*◌, ◌%◌, ◌<◌}
use native.Mathlib.Nat.{mod-lt}
use native.Mathlib.Numerals.{add-one}
use native.Mathlib.Omega.{arith}
use lib.ListN.{length, get_or, length-append}
use Rattle.headers.specs.declared.tuple.Tuple.{Tuple}
use Rattle.constraints.specs.Walk.{lt_places, land, pi_places, places}
use Rattle.constraints.proofs.Steps.{one_more, from_start}

-- ---- the LT places

pub lt-length : (w a d b : ℕ) → length (lt_places w a d b) ≡ d
unfolding lt_places
lt-length w a zero b = refl
lt-length w a (suc d) b = ap suc (lt-length w a d ((b + a) % w))

pub lt_at : (w a d b i : ℕ) → b < w → i < d → get_or (lt_places w a d b) i 0 ≡ (b + i * a) % w
unfolding lt_places
lt_at w a zero b i l h = absurd (omega arith)
lt_at w a (suc d) b zero l h = from_start a l
lt_at w a (suc d) b (suc i) l h = lt_at w a d ((b + a) % w) i (mod-lt (b + a) (omega arith)) (omega arith) ∙ one_more w a b i

-- ---- the PI places

module _ (p p1 a : ℕ) where
  -- where the walk goes on after i places
  unfoldable pub start : ℕ → ℕ → ℕ
  start zero b = b
  start (suc i) b = start i ((land p p1 a p1 b + a) % p1)

  pub start-suc : (i b : ℕ) → start (suc i) b ≡ (land p p1 a p1 (start i b) + a) % p1
  unfolding start
  start-suc zero b = refl
  start-suc (suc i) b = start-suc i ((land p p1 a p1 b + a) % p1)

  pub start-on : (i b x y : ℕ) → x ≡ start i b → y ≡ land p p1 a p1 x → (y + a) % p1 ≡ start (i + 1) b
  start-on i b x y e f =
      rw (add-one i) (ap (λ (z : ℕ). (z + a) % p1) (f ∙ ap (land p p1 a p1) e) ∙ sym (start-suc i b))

  pub start-lt : (i b : ℕ) → b < p1 → start i b < p1
  unfolding start
  start-lt zero b h = h
  start-lt (suc i) b h = start-lt i ((land p p1 a p1 b + a) % p1) (mod-lt (land p p1 a p1 b + a) (omega arith))

  pub pi-length : (w d b : ℕ) → length (pi_places w p p1 a d b) ≡ d
  unfolding pi_places
  pi-length w zero b = refl
  pi-length w (suc d) b = ap suc (pi-length w d ((land p p1 a p1 b + a) % p1))

  pub pi-at : (w d b i : ℕ) → i < d → get_or (pi_places w p p1 a d b) i 0 ≡ w + land p p1 a p1 (start i b)
  unfolding pi_places start
  pi-at w zero b i h = absurd (omega arith)
  pi-at w (suc d) b zero h = refl
  pi-at w (suc d) b (suc i) h = pi-at w d ((land p p1 a p1 b + a) % p1) i (omega arith)

  pub pi-is : (w d b i x y : ℕ) → i < d → x ≡ start i b → y ≡ land p p1 a p1 x → w + y ≡ get_or (pi_places w p p1 a d b) i 0
  pi-is w d b i x y h e f = ap (λ (z : ℕ). w + z) (f ∙ ap (land p p1 a p1) e) ∙ sym (pi-at w d b i h)

-- ---- the whole walk, of any tuple

pub places-length : (w p p1 : ℕ) (t : Tuple) → length (places w p p1 t) ≡ t.d + t.d1
unfolding places
places-length w p p1 t =
    length-append (lt_places w t.a t.d t.b) (pi_places w p p1 t.a1 t.d1 t.b1)
    ∙ ap₂ ◌+◌ (lt-length w t.a t.d t.b) (pi-length p p1 t.a1 w t.d1 t.b1)
