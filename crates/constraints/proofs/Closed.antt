-- The sums of the LDPC procedure, column by column; and that its ones do not meet, so that setting them is adding them.
-- Assumes nothing.
use mathlib.Core.Path.{◌≡◌, refl, sym, ap, ap₂, ◌∙◌, subst}
use Prim.Native.Nat.{ℕ, ◌+◌, ◌-◌, ◌*◌, ◌/◌, ◌%◌, ◌<◌, ◌≤◌}
use native.Mathlib.Nat.{mod-lt, mod-eq_of_lt, mod-eq-sub-mod, mod-add-mod, div-lt_iff_lt-mul, div-add-mod', div-eq_of_lt, div_self, add-mul, one-mul, mul-le-mul_right}
use native.Mathlib.Decide.{dec_lt, ℕ_discrete}
use native.Mathlib.Omega.{arith}
use mathlib.Core.Logic.{◌⊎◌, inl, inr}
use lib.Arith.{digits_div}
use borrow.Author.Tests.{eq-eqb, ne_eqb}
use lib.Bits.{xor_zero_r}
use lib.ListN.{length, get_or, set, length-set}
use lib.Seq.{get_or-set_same, get_or-set_other}
use mathlib.Core.List.{List}
use Rattle.field.specs.Octet.{plus}
use Rattle.field.specs.Runs.{Written}
use Rattle.field.specs.Sum.{sum, unit}
use Rattle.field.proofs.Sums.{unit-same, unit-other, sum-zero, sum-only}
use Rattle.headers.specs.Quotient.{ceil}
use Rattle.headers.proofs.Quotient.{ceil-enough}
use Rattle.constraints.specs.Ldpc.{adds, one, two, three, turn, crossed, ldpc, Crosses}

-- ---- what a turn adds

adds-row : (r c j : ℕ) → adds r c r j ≡ unit c j
unfolding adds
adds-row r c j = rw (eq-eqb r r refl)

adds-column : (r c i : ℕ) → adds r c i c ≡ unit r i
unfolding adds unit
adds-column r c i = rw (eq-eqb c c refl)

pub other_row : (r c i j : ℕ) → (r ≡ i → ⊥) → adds r c i j ≡ 0
unfolding adds
other_row r c i j n = rw (ne_eqb r i n)

pub other-column : (r c i j : ℕ) → (c ≡ j → ⊥) → adds r c i j ≡ 0
other-column r c i j n = go (ℕ_discrete r i)
  where
    go : Dec (r ≡ i) → adds r c i j ≡ 0
    go (yes e) = subst (λ (x : ℕ). adds r c x j ≡ 0) e (adds-row r c j ∙ unit-other c j n)
    go (no e) = other_row r c i j e

-- ---- the three sums

module _ (s w p r c : ℕ) where
  first : ℕ → ℕ
  first k = turn s r c k

  second : ℕ → ℕ
  second k = adds r c k (w - s + k)

  last : ℕ → ℕ
  last k = plus (adds r c k (w + k % p)) (adds r c k (w + (k + 1) % p))

  first-other : (k : ℕ) → (c ≡ k → ⊥) → first k ≡ 0
  unfolding first
  first-other k n = rw (other-column r c (one s k) k n, other-column r c (two s k) k n, other-column r c (three s k) k n)

  last-low : (k : ℕ) → c < w → last k ≡ 0
  unfolding last
  last-low k h = rw (other-column r c k (w + k % p) (λ e. omega arith), other-column r c k (w + (k + 1) % p) (λ e. omega arith))

  last-other : (k : ℕ) → (r ≡ k → ⊥) → last k ≡ 0
  unfolding last
  last-other k n = rw (other_row r c k (w + k % p) n, other_row r c k (w + (k + 1) % p) n)

  parts : ldpc s w p r c ≡ plus (plus (sum (w - s) first) (sum s second)) (sum s last)
  unfolding ldpc first second last
  parts = refl

  pub ldpc-first : c < w - s → ldpc s w p r c ≡ crossed s r c
  unfolding first second
  ldpc-first h =
      let one-turn = sum-only (w - s) first c h (λ k b n. first-other k (λ e. n (sym e))) in
      let no-second = sum-zero s {f = second} (λ k b. other-column r c k (w - s + k) (λ e. omega arith)) in
      let no-last = sum-zero s {f = last} (λ k b. last-low k (omega arith)) in
      parts ∙ ap₂ plus (ap₂ plus one-turn no-second) no-last
      ∙ xor_zero_r (plus (first c) 0) ∙ xor_zero_r (first c)
      ∙ ap₂ plus (ap₂ plus (adds-column r c (one s c)) (adds-column r c (two s c))) (adds-column r c (three s c))

  pub ldpc-second : w - s ≤ c → c < w → r < s → ldpc s w p r c ≡ unit c (w - s + r)
  unfolding second
  ldpc-second a b h =
      let no-first = sum-zero (w - s) {f = first} (λ k q. first-other k (λ e. omega arith)) in
      let one-turn = sum-only s second r h (λ k q n. other_row r c k (w - s + k) (λ e. n (sym e))) in
      parts ∙ ap₂ plus (ap₂ plus no-first one-turn) (sum-zero s {f = last} (λ k q. last-low k b))
      ∙ xor_zero_r (plus 0 (second r)) ∙ adds-row r c (w - s + r)

  pub ldpc-last : s ≤ w → w ≤ c → r < s → ldpc s w p r c ≡ plus (unit c (w + r % p)) (unit c (w + (r + 1) % p))
  unfolding second last
  ldpc-last a b h =
      let no-first = sum-zero (w - s) {f = first} (λ k q. first-other k (λ e. omega arith)) in
      let no-second = sum-zero s {f = second} (λ k q. other-column r c k (w - s + k) (λ e. omega arith)) in
      parts ∙ ap₂ plus (ap₂ plus no-first no-second) (sum-only s last r h (λ k q n. last-other k (λ e. n (sym e))))
      ∙ ap₂ plus (adds-row r c (w + r % p)) (adds-row r c (w + (r + 1) % p))

-- ---- the ones do not meet

pub wrap : (x s : ℕ) → s ≤ x → x < s + s → x % s ≡ x - s
wrap x s h l = mod-eq-sub-mod h ∙ mod-eq_of_lt (omega arith)

-- each step is less than s, and twice a step is not s
module _ (s a x : ℕ) (odd : s % 2 ≡ 1) (a-low : 0 < a) (a-high : a < s) (x-high : x < s) where
  pub three-apart : (y z : ℕ) → y ≡ (x + a) % s → z ≡ (y + a) % s → (x ≡ y → ⊥) × (y ≡ z → ⊥) × (x ≡ z → ⊥)
  three-apart y z ey ez = go (dec_lt (x + a) s) (dec_lt (y + a) s)
    where
      go : Dec (x + a < s) → Dec (y + a < s) → (x ≡ y → ⊥) × (y ≡ z → ⊥) × (x ≡ z → ⊥)
      go (yes h) (yes k) =
          let p : y ≡ x + a = ey ∙ mod-eq_of_lt h in
          let q : z ≡ y + a = ez ∙ mod-eq_of_lt k in
          (λ e. omega arith, λ e. omega arith, λ e. omega arith)
      go (yes h) (no k) =
          let p : y ≡ x + a = ey ∙ mod-eq_of_lt h in
          let q : z ≡ y + a - s = ez ∙ wrap (y + a) s (omega arith) (omega arith) in
          (λ e. omega arith, λ e. omega arith, λ e. omega arith)
      go (no h) (yes k) =
          let p : y ≡ x + a - s = ey ∙ wrap (x + a) s (omega arith) (omega arith) in
          let q : z ≡ y + a = ez ∙ mod-eq_of_lt k in
          (λ e. omega arith, λ e. omega arith, λ e. omega arith)
      go (no h) (no k) =
          let p : y ≡ x + a - s = ey ∙ wrap (x + a) s (omega arith) (omega arith) in
          let q : z ≡ y + a - s = ez ∙ wrap (y + a) s (omega arith) (omega arith) in
          (λ e. omega arith, λ e. omega arith, λ e. omega arith)

-- one place and the next, modulo p
pub two-apart : (p r : ℕ) → 2 ≤ p → r % p ≡ (r + 1) % p → ⊥
two-apart p r h e = go (dec_lt (r % p + 1) p)
  where
    l : r % p < p
    l = mod-lt r (omega arith)

    go : Dec (r % p + 1 < p) → ⊥
    go (yes k) = omega (arith, e, mod-add-mod r p 1, mod-eq_of_lt k)
    go (no k) = omega (arith, e, l, mod-add-mod r p 1, wrap (r % p + 1) p (omega (arith, l)) (omega (arith, l)))

pub rows_apart : (s c : ℕ) → s % 2 ≡ 1 → c / s + 1 < s
    → (one s c ≡ two s c → ⊥) × (two s c ≡ three s c → ⊥) × (one s c ≡ three s c → ⊥)
unfolding one two three
rows_apart s c o h = three-apart s (1 + c / s) (c % s) o (omega arith) (omega arith) (mod-lt c (omega arith)) (two s c) (three s c) refl refl

-- the rule on B bounds the step
pub step-high : {s w p : ℕ} → Crosses s w p → (c : ℕ) → c < w - s → c / s + 1 < s
step-high {s} {w} {p} k c h =
    let p : 0 < s = omega (arith, k.s-low) in
    let b : ceil (w - s) s ≤ s - 1 = omega (arith, k.b-high) in
    let m : c < (s - 1) * s = omega (arith, ceil-enough (w - s) s p, mul-le-mul_right {m = ceil (w - s) s} {n = s - 1} s b) in
    omega (arith, (div-lt_iff_lt-mul {k = s} {x = c} {y = s - 1} p).1 m)

-- ---- so the crate's `set` agrees with the sums

module _ {s w p : ℕ} (k : Crosses s w p) (r c : ℕ) where
  -- the first B columns: three ones
  pub set-crossed : c < w - s → (r ≡ one s c) ⊎ (r ≡ two s c) ⊎ (r ≡ three s c) → ldpc s w p r c ≡ 1
  set-crossed h e = ldpc-first s w p r c h ∙ go (rows_apart s c k.s-odd (step-high k c h)) e
    where
      go : (one s c ≡ two s c → ⊥) × (two s c ≡ three s c → ⊥) × (one s c ≡ three s c → ⊥)
          → (r ≡ one s c) ⊎ (r ≡ two s c) ⊎ (r ≡ three s c)
          → crossed s r c ≡ 1
      go q (inl e) = rw (unit-same r (one s c) e, unit-other r (two s c) (λ z. q.0 (sym e ∙ z)), unit-other r (three s c) (λ z. q.2 (sym e ∙ z)))
      go q (inr (inl e)) = rw (unit-same r (two s c) e, unit-other r (one s c) (λ z. q.0 (sym z ∙ e)), unit-other r (three s c) (λ z. q.1 (sym e ∙ z)))
      go q (inr (inr e)) = rw (unit-same r (three s c) e, unit-other r (one s c) (λ z. q.2 (sym z ∙ e)), unit-other r (two s c) (λ z. q.1 (sym z ∙ e)))

  pub clear-crossed : c < w - s → (r ≡ one s c → ⊥) → (r ≡ two s c → ⊥) → (r ≡ three s c → ⊥) → ldpc s w p r c ≡ 0
  clear-crossed h x y z =
      ldpc-first s w p r c h ∙ rw (unit-other r (one s c) x, unit-other r (two s c) y, unit-other r (three s c) z)

  -- the next S: a one
  pub set-identity : r < s → c ≡ w - s + r → ldpc s w p r c ≡ 1
  set-identity h e = ldpc-second s w p r c (omega arith) (omega (arith, k.b-low)) h ∙ unit-same c (w - s + r) e

  pub clear-identity : r < s → w - s ≤ c → c < w → (c ≡ w - s + r → ⊥) → ldpc s w p r c ≡ 0
  clear-identity h a b n = ldpc-second s w p r c a b h ∙ unit-other c (w - s + r) n

  -- the last P: two ones
  pub set-end : r < s → (c ≡ w + r % p) ⊎ (c ≡ w + (r + 1) % p) → ldpc s w p r c ≡ 1
  set-end h (inl e) =
      ldpc-last s w p r c (omega (arith, k.b-low)) (omega arith) h
      ∙ rw (unit-same c (w + r % p) e, unit-other c (w + (r + 1) % p) (λ z. two-apart p r (omega (arith, k.p-low)) (omega arith)))
  set-end h (inr e) =
      ldpc-last s w p r c (omega (arith, k.b-low)) (omega arith) h
      ∙ rw (unit-same c (w + (r + 1) % p) e, unit-other c (w + r % p) (λ z. two-apart p r (omega (arith, k.p-low)) (omega arith)))

  pub clear-end : r < s → w ≤ c → (c ≡ w + r % p → ⊥) → (c ≡ w + (r + 1) % p → ⊥) → ldpc s w p r c ≡ 0
  clear-end h a x y =
      ldpc-last s w p r c (omega (arith, k.b-low)) a h ∙ rw (unit-other c (w + r % p) x, unit-other c (w + (r + 1) % p) y)

-- ---- what the code writes, part by part

-- the same place, b further on
unit-shift : (b x y : ℕ) → unit x y ≡ unit (b + x) (b + y)
unit-shift b x y = go (ℕ_discrete x y)
  where
    go : Dec (x ≡ y) → unit x y ≡ unit (b + x) (b + y)
    go (yes e) = unit-same x y e ∙ sym (unit-same (b + x) (b + y) (omega arith))
    go (no e) = unit-other x y e ∙ sym (unit-other (b + x) (b + y) (λ q. e (omega arith)))

module _ {s w p : ℕ} (k : Crosses s w p) (r : ℕ) (h : r < s) where
  pub identity-is : (i : ℕ) → i < s → unit i r ≡ ldpc s w p r (w - s + i)
  identity-is i l = unit-shift (w - s) i r ∙ sym (ldpc-second s w p r (w - s + i) (omega arith) (omega (arith, k.b-low)) h)

  pub end_is : (i : ℕ) → plus (unit i (r % p)) (unit i ((r + 1) % p)) ≡ ldpc s w p r (w - s + s + i)
  end_is i =
      let e : w ≡ w - s + s = omega (arith, k.b-low) in
      ap₂ plus (unit-shift w i (r % p)) (unit-shift w i ((r + 1) % p))
      ∙ sym (ldpc-last s w p r (w + i) (omega (arith, k.b-low)) (omega arith) h)
      ∙ ap (λ (n : ℕ). ldpc s w p r (n + i)) e

-- a one more in a run with a one, in another place
pub two-ones : {xs ys : List ℕ} {at n x y j : ℕ} → Written (λ k. unit k x) xs ys at n → y < n → (x ≡ y → ⊥) → j ≡ at + y → at + n ≤ length xs
    → Written (λ k. plus (unit k x) (unit k y)) xs (set ys j 1) at n
two-ones {xs} {ys} {at} {n} {x} {y} {j} w h d e room =
    record {
      size = length-set ys j 1 ∙ w.size;
      part = λ k l. go k l (ℕ_discrete k y);
      low = λ k l. get_or-set_other ys j k 1 0 (λ z. omega arith) ∙ w.low k l;
      high = λ k l. get_or-set_other ys j k 1 0 (λ z. omega arith) ∙ w.high k l;
    }
  where
    go : (k : ℕ) → k < n → Dec (k ≡ y) → get_or (set ys j 1) (at + k) 0 ≡ plus (unit k x) (unit k y)
    go k l (yes z) =
        let i : at + k ≡ j = omega arith in
        rw (i, get_or-set_same ys j 1 0 (omega (arith, w.size)), unit-other k x (λ q. d (sym q ∙ z)), unit-same k y z)
    go k l (no z) =
        get_or-set_other ys j (at + k) 1 0 (λ q. z (omega arith)) ∙ w.part k l
        ∙ sym (ap (plus (unit k x)) (unit-other k y z) ∙ xor_zero_r (unit k x))

-- the next column: its row one on, its step one more where the row began anew
pub next-div : (c s : ℕ) → 0 < s → (c + 1) / s ≡ c / s + (c % s + 1) / s
next-div c s h = go (dec_lt (c % s + 1) s)
  where
    l : c % s < s
    l = mod-lt c h

    go : Dec (c % s + 1 < s) → (c + 1) / s ≡ c / s + (c % s + 1) / s
    go (yes b) =
        let m : c + 1 ≡ c / s * s + (c % s + 1) = omega (arith, div-add-mod' c s) in
        ap (λ (x : ℕ). x / s) m ∙ digits_div (c / s) b ∙ omega (arith, div-eq_of_lt b)
    go (no b) =
        let e : c % s + 1 ≡ s = omega (arith, l) in
        let m : c + 1 ≡ (c / s + 1) * s + 0 = omega (arith, div-add-mod' c s, add-mul (c / s) 1 s, one-mul s) in
        ap (λ (x : ℕ). x / s) m ∙ digits_div (c / s + 1) h ∙ omega (arith, ap (λ (x : ℕ). x / s) e, div_self h)

-- the octet that the code puts at column c, from x and a that it keeps
pub crossed-is : (s r c : ℕ) {x a y z u v t : ℕ} → x ≡ c % s → a ≡ 1 + c / s → y ≡ (x + a) % s → z ≡ (y + a) % s
    → u ≡ unit r x → v ≡ unit r y → t ≡ unit r z → plus (plus u v) t ≡ crossed s r c
unfolding one two three
crossed-is s r c ex ea ey ez eu ev et =
    let p = ey ∙ ap₂ (λ (m n : ℕ). (m + n) % s) ex ea in
    let q = ez ∙ ap₂ (λ (m n : ℕ). (m + n) % s) p ea in
    ap₂ plus (ap₂ plus (eu ∙ ap (unit r) ex) (ev ∙ ap (unit r) p)) (et ∙ ap (unit r) q)
