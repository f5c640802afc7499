-- Whether octets are all 0: gathered one after the other, joined from parts, and read off what was written.
-- Assumes nothing.
use mathlib.Core.Path.{◌≡◌, refl, sym, ap, ap₂, ◌∙◌}
use mathlib.Core.Bool.{Bool, true, false}
use mathlib.Core.List.{List}
use mathlib.Core.Logic.{◌≢◌}
use Prim.Native.Nat.{ℕ, zero, suc, ◌+◌, ◌<◌}
use native.Mathlib.Decide.{ℕ_discrete, dec_lt}
use native.Mathlib.Omega.{arith}
use native.Mathlib.Numerals.{unary_clauses}
use borrow.Author.Tests.{eq-eqb, ne_eqb, eqb-true}
use lib.Bits.{bit_or, or_zero_l, or_add_and, and_le_r}
use lib.Dec.{eqb}
use lib.ListN.{length, get_or, set}
use Rattle.field.specs.Choice.{both}
use Rattle.field.specs.Runs.{Written, all_zero, zero_from}
use Rattle.field.proofs.Writing.{written_none, written-more, written_is}

-- two octets are 0 together where both are
pub or-zero : (a b : ℕ) → eqb (bit_or a b) 0 ≡ both (eqb a 0) (eqb b 0)
or-zero zero b = ap (λ (x : ℕ). eqb x 0) (or_zero_l b)
or-zero (suc a) b =
    ne_eqb (bit_or (suc a) b) 0 (λ e. omega (arith, or_add_and (suc a) b, and_le_r (suc a) b))
    ∙ ap (λ (x : Bool). both x (eqb b 0)) (sym (ne_eqb (suc a) 0 (λ e. omega arith)))

pub all-zero-same : (f g : ℕ → ℕ) (n : ℕ) → ((k : ℕ) → k < n → f k ≡ g k) → all_zero f n ≡ all_zero g n
unfolding all_zero
all-zero-same f g zero e = refl
all-zero-same f g (suc n) e = ap₂ both (all-zero-same f g n (λ k h. e k (omega arith))) (ap (λ (y : ℕ). eqb y 0) (e n (omega arith)))

-- what was written is all 0 where the rule gives only 0
pub zero-written : {f : ℕ → ℕ} {xs ys : List ℕ} {at n : ℕ} → Written f xs ys at n → all_zero f n ≡ zero_from ys at n
zero-written {f} {xs} {ys} {at} {n} w = all-zero-same f (λ (k : ℕ). get_or ys (at + k) 0) n (λ k h. sym (w.part k h))

one_more : (f : ℕ → ℕ) (n : ℕ) → both (all_zero f n) (eqb (f n) 0) ≡ all_zero f (n + 1)
unfolding all_zero
one_more f n = simp unary_clauses refl

-- where a loop stands that writes f and tells: n places are done, and `zero` is whether they are all 0
pub record Telling (f : ℕ → ℕ) (xs ys : List ℕ) (at n : ℕ) (zero : Bool) : Type 0 where
  pub written : Written f xs ys at n
  pub told : zero ≡ all_zero f n

pub telling-none : (f : ℕ → ℕ) (xs : List ℕ) (at : ℕ) → Telling f xs xs at 0 true
unfolding all_zero
telling-none f xs at = record { written = written_none f xs at; told = refl }

module _ {f : ℕ → ℕ} {xs ys : List ℕ} {at n : ℕ} where
  -- one place more, which now holds v: what it holds is gathered
  pub gathered-more : (seen : ℕ) {j v : ℕ} → Telling f xs ys at n (eqb seen 0) → j ≡ at + n → j < length xs → v ≡ f n
      → Telling f xs (set ys j v) at (n + 1) (eqb (bit_or seen v) 0)
  gathered-more seen {j} {v} t e b q = record {
    written = written-more t.written e b q;
    told = or-zero seen v ∙ ap₂ both t.told (ap (λ (y : ℕ). eqb y 0) q) ∙ one_more f n;
  }

  -- all are done
  pub told-all : {m : ℕ} {zero : Bool} → Telling f xs ys at n zero → n ≡ m → Written f xs ys at m × (zero ≡ zero_from ys at m)
  told-all t e =
      let w = written_is t.written e in
      (w, t.told ∙ ap (all_zero f) e ∙ zero-written w)

both-assoc : (a b c : Bool) → both a (both b c) ≡ both (both a b) c
both-assoc true b c = refl
both-assoc false b c = refl

both_true : (a : Bool) → both a true ≡ a
both_true true = refl
both_true false = refl

-- n octets and the m behind them
pub all-zero-joined : (f : ℕ → ℕ) (n m : ℕ) → both (all_zero f n) (all_zero (λ k. f (n + k)) m) ≡ all_zero f (n + m)
unfolding all_zero
all-zero-joined f n zero = simp unary_clauses (both_true (all_zero f n))
all-zero-joined f n (suc m) =
    simp unary_clauses
    (both-assoc (all_zero f n) (all_zero (λ k. f (n + k)) m) (eqb (f (n + m)) 0) ∙ ap (λ (b : Bool). both b (eqb (f (n + m)) 0)) (all-zero-joined f n m))

both_left : (a b : Bool) → both a b ≡ true → a ≡ true
both_left true b e = refl
both_left false b e = e

both_right : (a b : Bool) → both a b ≡ true → b ≡ true
both_right true b e = e
both_right false b e = cc

-- a yes says it of each octet
pub each-zero : (f : ℕ → ℕ) (n : ℕ) → all_zero f n ≡ true → (k : ℕ) → k < n → f k ≡ 0
unfolding all_zero
each-zero f zero e k h = absurd (omega arith)
each-zero f (suc n) e k h = go (dec_lt k n) (each-zero f n (both_left (all_zero f n) (eqb (f n) 0) e) k)
  where
    go : Dec (k < n) → (k < n → f k ≡ 0) → f k ≡ 0
    go (yes l) q = q l
    go (no l) q = let i : k ≡ n = omega arith in ap f i ∙ eqb-true (f n) 0 (both_right (all_zero f n) (eqb (f n) 0) e)

-- a no finds one that is not 0
pub some-other : (f : ℕ → ℕ) (n : ℕ) → all_zero f n ≡ false → (k : ℕ) × (k < n) × (f k ≢ 0)
unfolding all_zero
some-other f zero e = let z : ◌≡◌ {A = ℕ} 0 1 = cc in absurd (omega arith)
some-other f (suc n) e = go (ℕ_discrete (f n) 0) (some-other f n)
  where
    go : Dec (f n ≡ 0) → (all_zero f n ≡ false → (k : ℕ) × (k < n) × (f k ≢ 0)) → (k : ℕ) × (k < suc n) × (f k ≢ 0)
    go (no d) q = (n, omega arith, d)
    go (yes z) q =
        let r = q (sym (both_true (all_zero f n)) ∙ ap (both (all_zero f n)) (sym (eq-eqb (f n) 0 z)) ∙ e) in
        (r.0, omega (arith, r.1), r.2)
