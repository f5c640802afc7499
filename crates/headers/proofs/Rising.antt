-- The thresholds rise, by one computed test; so one interval holds v, and the climb finds it.
-- Assumes nothing.
use Rattle.std.proofs.Common.{◌≡◌, ℕ, zero, suc, ◌-◌, ◌<◌, ◌≤◌, min, ltb, List, [], ◌∷◌, length, get_or, ap, ◌∙◌, subst, le_trans, le_refl, le_of_lt, arith, ltb→lt, le-ltb, lt-ltb}
use native.Mathlib.Decide.{dec_lt, le_ind}
use Rattle.field.specs.Choice.{pick}
use Rattle.field.proofs.Computed.{under}
use Rattle.headers.specs.Degree.{thresholds, IntervalOf, climb, degree}

abbrev f : ℕ → ℕ
f k = get_or thresholds k 0

-- the one test
pub rises : (k : ℕ) → k < 30 → f k < f (suc k)
rises k h = ltb→lt (f k) (f (suc k)) (under 30 (λ j. ltb (f j) (f (suc j))) tt k h)

pub mono : (i j : ℕ) → i ≤ j → j ≤ 30 → f i ≤ f j
mono i j h = le_ind (λ (m : ℕ). m ≤ 30 → f i ≤ f m) (λ _. le_refl (f i))
    (λ m k e l. le_trans (e (omega arith)) (le_of_lt (rises m (omega arith)))) j h

-- a threshold up to v, where v is below the last, is not the last
pub not_last : {d v : ℕ} → d ≤ 30 → get_or thresholds d 0 ≤ v → v < 1048576 → d < 30
not_last {d} {v} h l u = go (dec_lt d 30)
  where
    go : Dec (d < 30) → d < 30
    go (yes a) = a
    go (no a) = let e : d ≡ 30 = omega arith in absurd (let m : 1048576 ≤ v = subst (λ (n : ℕ). get_or thresholds n 0 ≤ v) e l in omega arith)

apart : {v d e : ℕ} → IntervalOf v d → IntervalOf v e → d < e → ⊥
apart {v} {d} {e} p q h = omega (arith, mono d (e - 1) (omega arith) (omega arith), p.to, q.from)

-- one interval holds v
pub one : {v d e : ℕ} → IntervalOf v d → IntervalOf v e → d ≡ e
one {v} {d} {e} p q = go (dec_lt d e) (dec_lt e d)
  where
    go : Dec (d < e) → Dec (e < d) → d ≡ e
    go (yes l) x = absurd (apart p q l)
    go (no a) (yes l) = absurd (apart q p l)
    go (no a) (no b) = omega arith

-- the climb ends at a number past v
climb-past : (v k : ℕ) (xs : List ℕ) → k < length xs → v < get_or xs k 0 → (climb v xs ≤ k) × (v < get_or xs (climb v xs) 0)
unfolding climb
climb-past v k [] h l = absurd (omega arith)
climb-past v zero (x ∷ xs) h l = rw (lt-ltb v x l) (omega arith, l)
climb-past v (suc k) (x ∷ xs) h l = go (dec_lt v x) (climb-past v k xs (omega arith) l)
  where
    go : Dec (v < x) → (climb v xs ≤ k) × (v < get_or xs (climb v xs) 0)
        → (pick (ltb v x) zero (suc (climb v xs)) ≤ suc k) × (v < get_or (x ∷ xs) (pick (ltb v x) zero (suc (climb v xs))) 0)
    go (yes a) p = rw (lt-ltb v x a) (omega arith, a)
    go (no a) p = rw (le-ltb v x (omega arith)) (omega arith, p.1)

-- and none before it is past v
climb-low : (v k : ℕ) (xs : List ℕ) → k < climb v xs → get_or xs k 0 ≤ v
unfolding climb
climb-low v k [] h = absurd (omega arith)
climb-low v zero (x ∷ xs) h = go (dec_lt v x) h
  where
    go : Dec (v < x) → 0 < pick (ltb v x) zero (suc (climb v xs)) → x ≤ v
    go (yes a) q = let r : 0 < zero = rw (lt-ltb v x a) at q in absurd (omega arith)
    go (no a) q = omega arith
climb-low v (suc k) (x ∷ xs) h = go (dec_lt v x) h (climb-low v k xs)
  where
    go : Dec (v < x) → suc k < pick (ltb v x) zero (suc (climb v xs)) → (k < climb v xs → get_or xs k 0 ≤ v) → get_or xs k 0 ≤ v
    go (yes a) q ih = let r : suc k < zero = rw (lt-ltb v x a) at q in absurd (omega arith)
    go (no a) q ih = let r : suc k < suc (climb v xs) = rw (le-ltb v x (omega arith)) at q in ih (omega arith)

-- the climb finds the interval that holds v
pub interval : (v : ℕ) → v < 1048576 → IntervalOf v (climb v thresholds)
interval v h =
    let p : (climb v thresholds ≤ 30) × (v < f (climb v thresholds)) = climb-past v 30 thresholds (omega arith) h in
    let low : 1 ≤ climb v thresholds = go (dec_lt (climb v thresholds) 1) p.1 in
    record { low = low; high = p.0; from = climb-low v (climb v thresholds - 1) thresholds (omega arith); to = p.1 }
  where
    go : Dec (climb v thresholds < 1) → v < f (climb v thresholds) → 1 ≤ climb v thresholds
    go (yes a) q = let e : climb v thresholds ≡ 0 = omega arith in absurd (let n : v < 0 = subst (λ (x : ℕ). v < f x) e q in omega arith)
    go (no a) q = omega arith

-- what is found is the degree
pub held-degree : {v d : ℕ} (w : ℕ) {r : ℕ} → v < 1048576 → IntervalOf v d → r ≡ min d (w - 2) → r ≡ degree v w
unfolding degree
held-degree {v} {d} w {r} h p e = e ∙ ap (λ (n : ℕ). min n (w - 2)) (one p (interval v h))

pub degree-high : (v w : ℕ) → v < 1048576 → degree v w ≤ 30
unfolding degree
degree-high v w h = omega (arith, (interval v h).high)

pub degree-low : (v w : ℕ) → v < 1048576 → 3 ≤ w → 1 ≤ degree v w
unfolding degree
degree-low v w h l = omega (arith, (interval v h).low)

pub degree-w : (v w : ℕ) → degree v w ≤ w - 2
unfolding degree
degree-w v w = omega arith
