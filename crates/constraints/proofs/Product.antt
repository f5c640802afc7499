-- The product of MT and GAMMA, column by column from the right: each column is alpha times the next, and what MT has.
-- Assumes nothing.
use mathlib.Core.Path.{◌≡◌, sym, ap, ap₂, ◌∙◌, subst}
use mathlib.Core.List.{List}
use Prim.Native.Nat.{ℕ, zero, suc, ◌+◌, ◌-◌, ◌*◌, ◌%◌, ◌<◌, ◌≤◌}
use native.Mathlib.Nat.{mod-eq_of_lt, mod-eq-sub-mod, sub_self, add_assoc}
use native.Mathlib.Decide.{dec_lt, ℕ_discrete}
use native.Mathlib.Numerals.{add-one}
use native.Mathlib.Omega.{arith}
use borrow.Author.Tests.{lt-ltb, le-ltb, le-leb, lt-leb, eq-eqb, ne_eqb}
use lib.Bits.{xor_comm}
use lib.ListN.{get_or}
use lib.Dec.{eqb, ltb}
use Rattle.field.specs.Choice.{pick}
use Rattle.field.specs.Octet.{plus, times, doubled, power}
use Rattle.field.proofs.Laws.{pick-lt, times-lt, times_zero, times-one, times-plus, times-left-comm, power-lt, power-suc, doubled-times}
use Rattle.field.proofs.Xor.{assoc}
use Rattle.field.specs.Sum.{sum, unit}
use Rattle.field.proofs.Sums.{unit-same, unit-other, sum-zero, sum-last, sum_lt}
use Rattle.headers.specs.Rand.{random}
use Rattle.headers.proofs.Tuples.{random-lt}
use Rattle.constraints.specs.Grid.{FilledFrom}
use Rattle.constraints.specs.Hdpc.{either, first, second, mt, gamma, hdpc}

gamma-high : (i j : ℕ) → i < j → gamma i j ≡ 0
unfolding gamma
gamma-high i j h = rw (lt-leb j i h)

gamma-same : (i : ℕ) → gamma i i ≡ 1
unfolding gamma power
gamma-same i = rw (le-leb i i (omega arith), sub_self i)

gamma-next : (i j : ℕ) → j < i → gamma i j ≡ times 2 (gamma i (suc j))
unfolding gamma
gamma-next i j h =
    let e : i - j ≡ suc (i - suc j) = omega arith in
    rw (le-leb j i (omega arith), le-leb (suc j) i (omega arith), e) (power-suc (i - suc j))

-- ---- a row of MT, with each column of GAMMA

module _ (m : ℕ → ℕ) (octets : (k : ℕ) → m k < 256) where
  abbrev pub product : ℕ → ℕ → ℕ
  product n j = sum n (λ k. times (m k) (gamma k j))

  pub product_lt : (n j : ℕ) → product n j < 256
  product_lt n j = sum_lt n (λ k h. times-lt (m k) (gamma k j))

  -- with a row of GAMMA more
  abbrev and-row : ℕ → ℕ → ℕ
  and-row n j = plus (product n j) (times (m n) (gamma n j))

  product-more : (n j : ℕ) → product (suc n) j ≡ and-row n j
  product-more n j = sum-last n (λ k. times (m k) (gamma k j))

  -- GAMMA has nothing above its diagonal
  pub product_high : (n j : ℕ) → n ≤ j → product n j ≡ 0
  product_high n j h = sum-zero n (λ k b. ap (times (m k)) (gamma-high k j (omega arith)) ∙ times_zero (m k))

  right_comm : (a b c : ℕ) → plus (plus a b) c ≡ plus (plus a c) b
  right_comm a b c = assoc a b c ∙ ap (plus a) (xor_comm b c) ∙ sym (assoc a c b)

  step : (n j : ℕ) → j < n → product n j ≡ plus (times 2 (product n (suc j))) (m j)
  step zero j h = absurd (omega arith)
  step (suc n) j h =
      product-more n j ∙ go (step n j) (dec_lt j n)
      ∙ ap (λ (x : ℕ). plus (times 2 x) (m j)) (sym (product-more n (suc j)))
    where
      go : (j < n → product n j ≡ plus (times 2 (product n (suc j))) (m j)) → Dec (j < n)
          → and-row n j ≡ plus (times 2 (and-row n (suc j))) (m j)
      go ih (yes l) =
          let a : ℕ = product n (suc j) in
          let b : ℕ = times (m n) (gamma n (suc j)) in
          ap₂ plus (ih l) (ap (times (m n)) (gamma-next n j l) ∙ times-left-comm (m n) 2 (gamma n (suc j)))
          ∙ right_comm (times 2 a) (m j) (times 2 b)
          ∙ ap (λ (x : ℕ). plus x (m j)) (sym (times-plus 2 a b))
      go ih (no l) =
          let e : n ≡ j = omega arith in
          let here = product_high n n (omega arith) in
          let next = product_high n (suc n) (omega arith) in
          let above = gamma-high n (suc n) (omega arith) in
          subst (λ (x : ℕ). and-row n x ≡ plus (times 2 (and-row n (suc x))) (m x)) e
          (rw (here, next, gamma-same n, above, times-one (m n) (octets n), times_zero (m n), times_zero 2))

  -- each column is alpha times the next, and what MT has
  pub product-next : (n j : ℕ) → j < n → product n j ≡ plus (doubled (product n (j + 1))) (m j)
  product-next n j h =
      let twice = sym (doubled-times (product n (suc j)) (product_lt n (suc j))) in
      step n j h ∙ ap (λ (x : ℕ). plus x (m j)) (twice ∙ ap (λ (x : ℕ). doubled (product n x)) (sym (add-one j)))

  -- the last
  pub product-last : (n j : ℕ) → n ≡ j + 1 → product n j ≡ m j
  product-last n j e =
      step n j (omega arith) ∙ ap (λ (x : ℕ). plus (times 2 x) (m j)) (product_high n (suc j) (omega arith)) ∙ ap (λ (x : ℕ). plus x (m j)) (times_zero 2)

-- ---- the rows

-- less than h rows further on, modulo h, is another row
apart : (h a b : ℕ) → a < h → b < h - 1 → a ≡ (a + b + 1) % h → ⊥
apart h a b ha hb e = go (dec_lt (a + b + 1) h)
  where
    go : Dec (a + b + 1 < h) → ⊥
    go (yes l) = omega (arith, e, mod-eq_of_lt l)
    go (no l) =
        let k : h ≤ a + b + 1 = omega arith in
        omega (arith, e, mod-eq-sub-mod k, mod-eq_of_lt {n = a + b + 1 - h} {m = h} (omega arith))

pub differ : (v : List ℕ) (h j : ℕ) → 2 ≤ h → first v h j ≡ second v h j → ⊥
unfolding first second
differ v h j p e =
    apart h (random v (j + 1) 6 h) (random v (j + 1) 7 (h - 1)) (random-lt v (j + 1) 6 h (omega arith)) (random-lt v (j + 1) 7 (h - 1) (omega arith)) e

-- so that "the one or the other" is a sum
two : (i a b : ℕ) → (a ≡ b → ⊥) → pick (either (eqb i a) (eqb i b)) 1 0 ≡ plus (unit i a) (unit i b)
two i a b n = go (ℕ_discrete i a) (ℕ_discrete i b)
  where
    go : Dec (i ≡ a) → Dec (i ≡ b) → pick (either (eqb i a) (eqb i b)) 1 0 ≡ plus (unit i a) (unit i b)
    go (yes p) (yes q) = absurd (n (sym p ∙ q))
    go (yes p) (no q) = rw (eq-eqb i a p, unit-same i a p, unit-other i b q)
    go (no p) (yes q) = rw (ne_eqb i a p, eq-eqb i b q, unit-other i a p, unit-same i b q)
    go (no p) (no q) = rw (ne_eqb i a p, ne_eqb i b q, unit-other i a p, unit-other i b q)

pub mt-ones : (v : List ℕ) (n h i j : ℕ) → 2 ≤ h → j + 1 < n → mt v n h i j ≡ plus (unit i (first v h j)) (unit i (second v h j))
unfolding mt
mt-ones v n h i j p b = rw (lt-ltb j (n - 1) (omega arith)) (two i (first v h j) (second v h j) (differ v h j p))

pub mt-last : (v : List ℕ) (n h i j : ℕ) → n ≡ j + 1 → mt v n h i j ≡ power i
unfolding mt
mt-last v n h i j e = rw (le-ltb j (n - 1) (omega arith))

pub mt-lt : (v : List ℕ) (n h i k : ℕ) → mt v n h i k < 256
unfolding mt
mt-lt v n h i k =
    pick-lt (ltb k (n - 1)) (pick-lt (either (eqb i (first v h k)) (eqb i (second v h k))) (omega arith) (omega arith)) (power-lt i)

left : (v : List ℕ) (n h i c : ℕ) → c < n → hdpc v n h i c ≡ product (mt v n h i) (mt-lt v n h i) n c
unfolding hdpc
left v n h i c b = rw (lt-ltb c n b)

pub hdpc-unit : (v : List ℕ) (n h i c : ℕ) → n ≤ c → hdpc v n h i c ≡ unit i (c - n)
unfolding hdpc
hdpc-unit v n h i c b = rw (le-ltb c n b)

pub hdpc-last : (v : List ℕ) (n h i c : ℕ) → n ≡ c + 1 → hdpc v n h i c ≡ power i
hdpc-last v n h i c e =
    left v n h i c (omega arith) ∙ product-last (mt v n h i) (mt-lt v n h i) n c e ∙ mt-last v n h i c e

pub hdpc-next : (v : List ℕ) (n h i c : ℕ) → 2 ≤ h → c + 1 < n
    → hdpc v n h i c ≡ plus (plus (doubled (hdpc v n h i (c + 1))) (unit i (first v h c))) (unit i (second v h c))
hdpc-next v n h i c p b =
    left v n h i c (omega arith) ∙ product-next (mt v n h i) (mt-lt v n h i) n c (omega arith)
    ∙ ap₂ (λ (x y : ℕ). plus (doubled x) y) (sym (left v n h i (c + 1) b)) (mt-ones v n h i c p b)
    ∙ sym (assoc (doubled (hdpc v n h i (c + 1))) (unit i (first v h c)) (unit i (second v h c)))

-- what the code puts into column c, with all columns from c + 1 on filled
pub next-is : (v : List ℕ) (n h c : ℕ) {xs ys : List ℕ} {at l d r a b : ℕ} → FilledFrom (hdpc v n h) xs ys at h l d → d ≡ c + 1
    → 2 ≤ h → d < n → n ≤ l → r < h → a ≡ first v h c → b ≡ second v h c
    → plus (plus (doubled (get_or ys (at + r * l + c + 1) 0)) (unit r a)) (unit r b) ≡ hdpc v n h r c
next-is v n h c {xs} {ys} {at} {l} {d} {r} {a} {b} w e p q m hr ea eb =
    let x : get_or ys (at + r * l + c + 1) 0 ≡ hdpc v n h r (c + 1) =
    ap (λ (k : ℕ). get_or ys k 0) (add_assoc (at + r * l) c 1) ∙ w.part r (c + 1) hr (omega arith) (omega arith) in
    ap₂ plus (ap₂ (λ (y z : ℕ). plus (doubled y) z) x (ap (unit r) ea)) (ap (unit r) eb) ∙ sym (hdpc-next v n h r c p (omega arith))

-- ---- one row

unit-comm : (i j : ℕ) → unit i j ≡ unit j i
unit-comm i j = go (ℕ_discrete i j)
  where
    go : Dec (i ≡ j) → unit i j ≡ unit j i
    go (yes e) = unit-same i j e ∙ sym (unit-same j i (sym e))
    go (no n) = unit-other i j n ∙ sym (unit-other j i (λ e. n (sym e)))

-- the identity, behind the n columns of GAMMA
pub hdpc-identity : (v : List ℕ) (n h i k : ℕ) → unit k i ≡ hdpc v n h i (n + k)
hdpc-identity v n h i k =
    let e : k ≡ n + k - n = omega arith in
    unit-comm k i ∙ ap (unit i) e ∙ sym (hdpc-unit v n h i (n + k) (omega arith))

-- row i of MT with column c of GAMMA, and 0 past the last
abbrev pub turned : List ℕ → ℕ → ℕ → ℕ → ℕ → ℕ
turned v n h i c = product (mt v n h i) (mt-lt v n h i) n c

pub turned-last : (v : List ℕ) (n h i : ℕ) → 0 ≡ turned v n h i n
turned-last v n h i = sym (product_high (mt v n h i) (mt-lt v n h i) n n (omega arith))

-- what the code makes of the column to the right
pub turned-next : (v : List ℕ) (n h i c : ℕ) {d x y z : ℕ} → d ≡ c + 1 → c < n → x ≡ turned v n h i d → y ≡ doubled x
    → z ≡ mt v n h i c → plus y z ≡ turned v n h i c
turned-next v n h i c e b p q r =
    ap₂ plus (q ∙ ap doubled (p ∙ ap (turned v n h i) e)) r ∙ sym (product-next (mt v n h i) (mt-lt v n h i) n c b)

pub turned-is : (v : List ℕ) (n h i c : ℕ) → c < n → turned v n h i c ≡ hdpc v n h i c
turned-is v n h i c b = sym (left v n h i c b)
