-- The rows that row, tables and K fix: which stands where, and that all are taken when as many turns are over as there are rows.
-- Assumes nothing.
use mathlib.Core.Path.{◌≡◌, refl, sym, ap, ◌∙◌}
use mathlib.Core.Bool.{Bool, true}
use mathlib.Core.List.{List}
use Prim.Native.Nat.{ℕ, zero, suc, ◌+◌, ◌-◌, ◌≤◌, ◌<◌}
use native.Mathlib.Nat.{zero-add}
use native.Mathlib.Decide.{dec_lt}
use native.Mathlib.Omega.{arith}
use borrow.Author.Tests.{lt-ltb, le-ltb}
use lib.Dec.{eqb}
use lib.ListN.{get_or}
use Rattle.field.specs.Choice.{pick, both as and_then}
use Rattle.field.specs.Runs.{Written, all_zero, zero_from}
use Rattle.field.proofs.Zeros.{zero-written}
use Rattle.headers.specs.Row.{Obeys, l_of}
use Rattle.headers.proofs.Accepted.{own-l}
use Rattle.headers.specs.declared.row.Row.{Row}
use Rattle.constraints.specs.Encoding.{enc_of}
use Rattle.constraints.specs.Hdpc.{hdpc, hdpc_of}
use Rattle.constraints.specs.Ldpc.{ldpc, ldpc_of}
use Rattle.linear.specs.Index.{ahead}
use Rattle.linear.specs.System.{System, OneOf, Included, joined}
use Rattle.linear.proofs.Index.{ahead-first, ahead-then}
use Rattle.linear.proofs.Joined.{one_then, included-both, included-first, included-second}
use Rattle.solver.specs.System.{fixed, fixed_with, hdpc_rows, ldpc_rows, padding_rows}
use Rattle.intake.specs.Taking.{first_fixed, fixed_row, in_turn, single}
use Rattle.intake.proofs.Systems.{Alike}

-- ---- which row stands where

module _ (v : List ℕ) (r : Row) (k : ℕ) where
  abbrev both : System ℕ
  both = joined (ldpc_rows r) (hdpc_rows v r)

  pub fixed-ldpc : (j : ℕ) → j < r.s → (c : ℕ) → fixed_row v r k j c ≡ ldpc_of r j c
  fixed-ldpc j h c =
      ap (λ (f : ℕ → ℕ). f c)
      (ahead-first (r.s + r.h) both.coef (padding_rows v r k).coef j (omega arith) ∙ ahead-first r.s (ldpc_of r) (hdpc_of v r) j h)

  pub fixed-hdpc : (j : ℕ) → j < r.h → (c : ℕ) → fixed_row v r k (r.s + j) c ≡ hdpc_of v r j c
  fixed-hdpc j h c =
      ap (λ (f : ℕ → ℕ). f c)
      (ahead-first (r.s + r.h) both.coef (padding_rows v r k).coef (r.s + j) (omega arith) ∙ ahead-then r.s (ldpc_of r) (hdpc_of v r) j)

  pub fixed-padding : (j c : ℕ) → fixed_row v r k (r.s + r.h + j) c ≡ enc_of v r (k + j) c
  fixed-padding j c = ap (λ (f : ℕ → ℕ). f c) (ahead-then (r.s + r.h) both.coef (λ i. enc_of v r (k + i)) j)

-- ---- as they are laid

pub from_zero : {f : ℕ → ℕ} {xs ys : List ℕ} {n : ℕ} → Written f xs ys 0 n → (c : ℕ) → c < n → get_or ys c 0 ≡ f c
from_zero {ys = ys} w c h = ap (λ (i : ℕ). get_or ys i 0) (sym (zero-add c)) ∙ w.part c h

module _ (v : List ℕ) (r : Row) (k j : ℕ) (o : Obeys r) (xs ys : List ℕ) where
  pub laid-ldpc : j < r.s → Written (ldpc r.s r.w r.p j) xs ys 0 (r.w + r.p) → (c : ℕ) → c < l_of r → get_or ys c 0 ≡ fixed_row v r k j c
  laid-ldpc h w c l =
      from_zero w c (omega (arith, own-l o, o.derived.l-fits)) ∙ ap (λ (p : ℕ). ldpc r.s r.w p j c) o.derived.p-fits ∙ sym (fixed-ldpc v r k j h c)

  pub laid-hdpc : r.s ≤ j → j < r.s + r.h → Written (hdpc v (r.l - r.h) r.h (j - r.s)) xs ys 0 r.l
      → (c : ℕ) → c < l_of r → get_or ys c 0 ≡ fixed_row v r k j c
  laid-hdpc low high w c l =
      let n : r.l - r.h ≡ r.kp + r.s = omega (arith, o.derived.l-fits) in
      let e : r.s + (j - r.s) ≡ j = omega arith in
      from_zero w c (omega (arith, o.derived.l-fits)) ∙ ap (λ (m : ℕ). hdpc v m r.h (j - r.s) c) n
      ∙ sym (fixed-hdpc v r k (j - r.s) (omega arith) c) ∙ ap (λ (i : ℕ). fixed_row v r k i c) e

  pub laid-padding : {g : ℕ → ℕ} → r.s + r.h ≤ j → Written g xs ys 0 r.l → ((c : ℕ) → g c ≡ enc_of v r (k + (j - r.s - r.h)) c)
      → (c : ℕ) → c < l_of r → get_or ys c 0 ≡ fixed_row v r k j c
  laid-padding low w f c l =
      let e : r.s + r.h + (j - r.s - r.h) ≡ j = omega arith in
      from_zero w c (omega (arith, o.derived.l-fits)) ∙ f c ∙ sym (fixed-padding v r k (j - r.s - r.h) c) ∙ ap (λ (i : ℕ). fixed_row v r k i c) e

-- a symbol that was cleared is all 0
all-blank : (n : ℕ) → all_zero (λ _. 0) n ≡ true
unfolding all_zero
all-blank zero = refl
all-blank (suc n) = ap (λ (b : Bool). and_then b (eqb 0 0)) (all-blank n)

pub cleared : {xs ys : List ℕ} {n : ℕ} → Written (λ _. 0) xs ys 0 n → true ≡ zero_from ys 0 n
cleared {n = n} w = sym (all-blank n) ∙ zero-written w

pub cleared_at : {xs ys : List ℕ} {n : ℕ} → Written (λ _. 0) xs ys 0 n → (b : ℕ) → b < n → get_or ys b 0 ≡ 0
cleared_at w b h = from_zero w b h

-- a choice between nothing and nothing
blank : (n : ℕ) (f g : ℕ → ℕ → ℕ) → ((i b : ℕ) → f i b ≡ 0) → ((i b : ℕ) → g i b ≡ 0) → (i b : ℕ) → ahead n f g i b ≡ 0
blank n f g p q i b = go (dec_lt i n)
  where
    go : Dec (i < n) → ahead n f g i b ≡ 0
    go (yes h) = ap (λ (x : ℕ → ℕ). x b) (ahead-first n f g i h) ∙ p i b
    go (no h) =
        let e : n + (i - n) ≡ i = omega arith in
        ap (λ (x : ℕ). ahead n f g x b) (sym e) ∙ ap (λ (x : ℕ → ℕ). x b) (ahead-then n f g (i - n)) ∙ q (i - n) b

-- their symbols are 0
fixed-blank : (v : List ℕ) (r : Row) (k i b : ℕ) → (fixed_with (hdpc_rows v r) v r k).byte i b ≡ 0
fixed-blank v r k i b =
    blank (r.s + r.h) (joined (ldpc_rows r) (hdpc_rows v r)).byte (λ _ _. 0) (blank r.s (λ _ _. 0) (λ _ _. 0) (λ _ _. refl) (λ _ _. refl)) (λ _ _. refl) i b

-- ---- the order in which they are taken

pub turn-first : (r : Row) (k i : ℕ) → i < r.kp - k → in_turn r k i ≡ r.s + r.h + i
unfolding in_turn
turn-first r k i h = ap (λ (b : Bool). pick b (r.s + r.h + i) (i - (r.kp - k))) (lt-ltb i (r.kp - k) h)

pub turn-then : (r : Row) (k i : ℕ) → r.kp - k ≤ i → in_turn r k i ≡ i - (r.kp - k)
unfolding in_turn
turn-then r k i h = ap (λ (b : Bool). pick b (r.s + r.h + i) (i - (r.kp - k))) (le-ltb i (r.kp - k) h)

pub turn_below : (r : Row) (k i : ℕ) → i < fixed r k → in_turn r k i < fixed r k
turn_below r k i h = go (dec_lt i (r.kp - k))
  where
    go : Dec (i < r.kp - k) → in_turn r k i < fixed r k
    go (yes l) = omega (arith, turn-first r k i l)
    go (no l) = omega (arith, turn-then r k i (omega arith))

-- each has its turn
turn-of : (r : Row) (k j : ℕ) → j < fixed r k → (i : ℕ) × (i < fixed r k) × (in_turn r k i ≡ j)
turn-of r k j h = go (dec_lt j (r.s + r.h))
  where
    go : Dec (j < r.s + r.h) → (i : ℕ) × (i < fixed r k) × (in_turn r k i ≡ j)
    go (yes l) = (r.kp - k + j, omega arith, omega (arith, turn-then r k (r.kp - k + j) (omega arith)))
    go (no l) =
        let low : j - (r.s + r.h) < r.kp - k = omega arith in (j - (r.s + r.h), omega arith, omega (arith, turn-first r k (j - (r.s + r.h)) low))

-- one turn more
module _ (L T : ℕ) (v : List ℕ) (r : Row) (k i : ℕ) where
  abbrev next : System ℕ
  next = single (fixed_row v r k (in_turn r k i)) (λ _. 0)

  turn-to : Included L T (joined (first_fixed v r k i) next) (first_fixed v r k (i + 1))
  turn-to = included-both L T (first_fixed v r k i) next
      (λ j h. (j, omega arith, record { coefs = λ c l. refl; bytes = λ t l. refl }))
      (λ j h. (i, omega arith, record { coefs = λ c l. refl; bytes = λ t l. refl }))

  turn-back : Included L T (first_fixed v r k (i + 1)) (joined (first_fixed v r k i) next)
  turn-back j h = go (dec_lt j i)
    where
      go : Dec (j < i) → OneOf L T (first_fixed v r k (i + 1)) j (joined (first_fixed v r k i) next)
      go (yes l) = one_then (record { coefs = λ c q. refl; bytes = λ t q. refl }) (included-first L T (first_fixed v r k i) next j l)
      go (no l) =
          let e : j ≡ i = omega arith in
          one_then (record { coefs = λ c q. ap (λ (x : ℕ). fixed_row v r k (in_turn r k x) c) e; bytes = λ t q. refl })
          (included-second L T (first_fixed v r k i) next 0 (omega arith))

  pub turn_more : Alike L T (joined (first_fixed v r k i) next) (first_fixed v r k (i + 1))
  turn_more = record { to = turn-to; back = turn-back }

-- and after the last one all are taken
pub turns-all : (L T : ℕ) (v : List ℕ) (r : Row) (k : ℕ) → Alike L T (first_fixed v r k (fixed r k)) (fixed_with (hdpc_rows v r) v r k)
turns-all L T v r k = record {
  to = λ i h. (in_turn r k i, turn_below r k i h, record { coefs = λ c l. refl; bytes = λ b l. sym (fixed-blank v r k (in_turn r k i) b) });
  back = λ j h. let o = turn-of r k j h in (
    o.0,
    o.1,
    record { coefs = λ c l. ap (λ (x : ℕ). fixed_row v r k x c) (sym o.2); bytes = λ b l. fixed-blank v r k j b },
  );
}
