-- The places of a tuple: all are places of intermediate symbols, and no two are the same. So setting ones is adding them.
-- Assumes nothing.
use mathlib.Core.Path.{◌≡◌, sym, ap, ◌∙◌, subst}
use Prim.Native.Nat.{ℕ, suc, ◌+◌, ◌-◌, ◌*◌, ◌%◌, ◌<◌, ◌≤◌}
use native.Mathlib.Nat.{mod-lt}
use native.Mathlib.Decide.{dec_lt, ℕ_discrete}
use native.Mathlib.Omega.{arith}
use lib.ListN.{length, get_or, get_or-append}
use lib.Seq.{get_or-append-add}
use Rattle.constraints.proofs.Modular.{apart}
use Rattle.headers.specs.Tuples.{Bounds}
use Rattle.constraints.specs.Walk.{lt_places, land, pi_places, places, Walks, Distinct}
use Rattle.headers.specs.declared.tuple.Tuple.{Tuple}
use Rattle.constraints.proofs.Steps.{land-lt, hop-other, hop-third}
use Rattle.constraints.proofs.Lists.{start, start-suc, start-lt, lt-length, lt_at, pi-at, places-length}

-- a number below p that is neither of two, where p is at least 3
third : (p x y : ℕ) → 3 ≤ p → (z : ℕ) × (z < p) × (x ≡ z → ⊥) × (y ≡ z → ⊥)
third p x y h = go (ℕ_discrete x 0) (ℕ_discrete y 0)
  where
    go : Dec (x ≡ 0) → Dec (y ≡ 0) → (z : ℕ) × (z < p) × (x ≡ z → ⊥) × (y ≡ z → ⊥)
    go (no a) (no b) = (0, omega arith, a, b)
    go (yes a) (yes b) = (1, omega arith, λ e. omega arith, λ e. omega arith)
    go (yes a) (no b) = after (ℕ_discrete y 1)
      where
        after : Dec (y ≡ 1) → (z : ℕ) × (z < p) × (x ≡ z → ⊥) × (y ≡ z → ⊥)
        after (yes c) = (2, omega arith, λ e. omega arith, λ e. omega arith)
        after (no c) = (1, omega arith, λ e. omega arith, c)
    go (no a) (yes b) = after (ℕ_discrete x 1)
      where
        after : Dec (x ≡ 1) → (z : ℕ) × (z < p) × (x ≡ z → ⊥) × (y ≡ z → ⊥)
        after (yes c) = (2, omega arith, λ e. omega arith, λ e. omega arith)
        after (no c) = (1, omega arith, c, λ e. omega arith)

module _ (w p p1 : ℕ) (t : Tuple) (s : Walks w p p1) (k : Bounds w p1 t) where
  -- the place of the i-th PI symbol among the PI symbols
  pi : ℕ → ℕ
  pi i = land p p1 t.a1 p1 (start p p1 t.a1 i t.b1)

  pi-lt : (i : ℕ) → pi i < p
  unfolding pi
  pi-lt i =
      land-lt s.p1-prime (omega (arith, s.p-low)) s.p-p1 k.a1-low k.a1-high (start p p1 t.a1 i t.b1)
      (start-lt p p1 t.a1 i t.b1 k.b1-high)

  pi-next : (i : ℕ) → pi (suc i) ≡ land p p1 t.a1 p1 ((pi i + t.a1) % p1)
  unfolding pi
  pi-next i = ap (land p p1 t.a1 p1) (start-suc p p1 t.a1 i t.b1)

  pi-high : (i : ℕ) → pi i < p1
  pi-high i = omega (arith, pi-lt i, s.p-p1)

  pi-one : (i : ℕ) → pi i ≡ pi (suc i) → ⊥
  pi-one i e =
      let z = third p (pi i) (pi i) s.p-low in
      hop-other s.p1-prime (omega (arith, s.p-low)) s.p-p1 k.a1-low k.a1-high (pi i) z.0 (pi-high i) z.1 z.2 (e ∙ pi-next i)

  pi-two : (i : ℕ) → pi i ≡ pi (suc (suc i)) → ⊥
  pi-two i e =
      let z = third p (pi i) (pi (suc i)) s.p-low in
      hop-third s.p1-prime (omega (arith, s.p-low)) s.p-p1 k.a1-low k.a1-high (pi i) z.0 (pi-high i) z.1 z.2
      (λ q. z.3 (pi-next i ∙ q))
      (e ∙ pi-next (suc i) ∙ ap (λ (x : ℕ). land p p1 t.a1 p1 ((x + t.a1) % p1)) (pi-next i))

  -- three PI places at most
  pi-apart : (i j : ℕ) → i < j → j < 3 → pi i ≡ pi j → ⊥
  pi-apart i j h l e = go (ℕ_discrete j (suc i))
    where
      go : Dec (j ≡ suc i) → ⊥
      go (yes q) = pi-one i (e ∙ ap pi q)
      go (no q) = let r : j ≡ suc (suc i) = omega arith in pi-two i (e ∙ ap pi r)

  -- ---- the whole list

  front : (i : ℕ) → i < t.d → get_or (places w p p1 t) i 0 ≡ (t.b + i * t.a) % w
  unfolding places
  front i h =
      get_or-append (lt_places w t.a t.d t.b) (pi_places w p p1 t.a1 t.d1 t.b1) 0 i (omega (arith, lt-length w t.a t.d t.b))
      ∙ lt_at w t.a t.d t.b i k.b-high h

  back : (i : ℕ) → i < t.d1 → get_or (places w p p1 t) (t.d + i) 0 ≡ w + pi i
  unfolding places pi
  back i h =
      ap (λ (n : ℕ). get_or (places w p p1 t) (n + i) 0) (sym (lt-length w t.a t.d t.b))
      ∙ get_or-append-add (lt_places w t.a t.d t.b) (pi_places w p p1 t.a1 t.d1 t.b1) i 0
      ∙ pi-at p p1 t.a1 w t.d1 t.b1 i h

  back' : (i : ℕ) → t.d ≤ i → i < t.d + t.d1 → get_or (places w p p1 t) i 0 ≡ w + pi (i - t.d)
  back' i h l =
      let e : t.d + (i - t.d) ≡ i = omega arith in
      subst (λ (n : ℕ). get_or (places w p p1 t) n 0 ≡ w + pi (i - t.d)) e (back (i - t.d) (omega arith))

  low : (i : ℕ) → i < t.d → get_or (places w p p1 t) i 0 < w
  low i h = omega (arith, front i h, mod-lt (t.b + i * t.a) {m = w} (omega (arith, k.b-high)))

  -- L is w + p
  pub places-lt : (i : ℕ) → i < length (places w p p1 t) → get_or (places w p p1 t) i 0 < w + p
  places-lt i h = go (dec_lt i t.d)
    where
      go : Dec (i < t.d) → get_or (places w p p1 t) i 0 < w + p
      go (yes l) = omega (arith, low i l)
      go (no l) = omega (arith, back' i (omega arith) (omega (arith, places-length w p p1 t)), pi-lt (i - t.d))

  pub places-distinct : Distinct (places w p p1 t)
  places-distinct i j o h e = go (dec_lt j t.d) (dec_lt i t.d)
    where
      go : Dec (j < t.d) → Dec (i < t.d) → ⊥
      go (yes l) (yes m) =
          apart s.w-prime t.a t.b i j k.a-low k.a-high o (omega (arith, k.d-w)) (sym (front i m) ∙ e ∙ front j l)
      go (yes l) (no m) = omega arith
      go (no l) (yes m) = omega (arith, low i m, back' j (omega arith) (omega (arith, places-length w p p1 t)))
      go (no l) (no m) =
          pi-apart (i - t.d) (j - t.d) (omega arith) (omega (arith, k.d1-high, places-length w p p1 t))
          (omega (arith, back' i (omega arith) (omega (arith, places-length w p p1 t)), back' j (omega arith) (omega (arith, places-length w p p1 t))))
