-- Columns of a row of bits: one that is put, and two that change places.
-- Assumes nothing.
use mathlib.Core.Path.{◌≡◌, refl, sym, ap, ◌∙◌}
use mathlib.Core.Bool.{Bool, true, false}
use mathlib.Core.List.{List}
use Prim.Native.Nat.{ℕ, ◌+◌, ◌*◌, ◌/◌, ◌%◌, ◌≤◌, ◌<◌}
use native.Mathlib.Nat.{add-zero, zero-add, div-add-mod'}
use native.Mathlib.Decide.{ℕ_discrete, dec_lt}
use native.Mathlib.Omega.{arith}
use borrow.Author.Tests.{eq-eqb, ne_eqb, lt-ltb, le-ltb}
use lib.Arith.{digits_div, digits_mod}
use lib.Dec.{eqb, ltb}
use lib.ListN.{get_or}
use Rattle.field.specs.Choice.{pick}
use Rattle.field.specs.Runs.{Written}
use Rattle.field.proofs.Writing.{written_same, written_is, written_from}
use Rattle.field.proofs.Parts.{written_then}
use Rattle.stores.specs.Bits.{bit, bit_at, with_bit, moved, crossing, crossed_from}
use Rattle.stores.proofs.Bits.{with-self, with-same, with-other}
use Rattle.stores.proofs.Rows.{below_row}

-- column c of the row at `at` was made v
abbrev pub Put : List ℕ → List ℕ → ℕ → ℕ → ℕ → Type 0
Put xs ys at c v = Written (λ k. with_bit (get_or xs (at + c / 64) 0) (c % 64) v) xs ys (at + c / 64) 1

-- each word of the row then
pub put_word : (xs ys : List ℕ) (at c v : ℕ) → Put xs ys at c v → (k : ℕ) → get_or ys (at + k) 0 ≡ moved k c v (get_or xs (at + k) 0)
put_word xs ys at c v w k = go (ℕ_discrete k (c / 64))
  where
    go : Dec (k ≡ c / 64) → get_or ys (at + k) 0 ≡ moved k c v (get_or xs (at + k) 0)
    go (yes e) =
        rw (eq-eqb k (c / 64) e)
        (ap (λ (i : ℕ). get_or ys (at + i) 0) e ∙ ap (λ (i : ℕ). get_or ys i 0) (sym (add-zero (at + c / 64))) ∙ w.part 0 (omega arith)
        ∙ ap (λ (i : ℕ). with_bit (get_or xs (at + i) 0) (c % 64) v) (sym e))
    go (no d) = rw (ne_eqb k (c / 64) d) (side (dec_lt k (c / 64)))
      where
        side : Dec (k < c / 64) → get_or ys (at + k) 0 ≡ get_or xs (at + k) 0
        side (yes l) = w.low (at + k) (omega arith)
        side (no l) = w.high (at + k) (omega arith)

-- the bit of column c, when column j has become v
pub moved-bit : (c j v w : ℕ) → v < 2 → bit (moved (c / 64) j v w) (c % 64) ≡ pick (eqb c j) v (bit w (c % 64))
moved-bit c j v w h = go (ℕ_discrete c j) (ℕ_discrete (c / 64) (j / 64))
  where
    go : Dec (c ≡ j) → Dec (c / 64 ≡ j / 64) → bit (moved (c / 64) j v w) (c % 64) ≡ pick (eqb c j) v (bit w (c % 64))
    go (yes e) d = rw (e, eq-eqb (j / 64) (j / 64) refl, eq-eqb j j refl) (with-same w (j % 64) v h)
    go (no n) (yes d) = rw (eq-eqb (c / 64) (j / 64) d, ne_eqb c j n) (with-other w (j % 64) v (c % 64) h (λ z. n (omega arith)))
    go (no n) (no d) = rw (ne_eqb (c / 64) (j / 64) d, ne_eqb c j n)

-- each column of the row then, and of all the words behind it
pub put-column : (xs ys : List ℕ) (at j v : ℕ) → Put xs ys at j v → v < 2 → (c : ℕ) → bit_at ys at c ≡ pick (eqb c j) v (bit_at xs at c)
put-column xs ys at j v w h c = ap (λ (x : ℕ). bit x (c % 64)) (put_word xs ys at j v w (c / 64)) ∙ moved-bit c j v (get_or xs (at + c / 64) 0) h

-- the two columns of one row, each put with what the other was
pub crossed-row : (xs ys zs : List ℕ) (at n a b : ℕ) → a / 64 < n → b / 64 < n → Put xs ys at a (bit_at xs at b) → Put ys zs at b (bit_at xs at a)
    → Written (crossing xs at a b) xs zs at n
unfolding crossing
crossed-row xs ys zs at n a b h l u v =
    record {
      size = v.size ∙ u.size;
      part = λ k q. put_word ys zs at b (bit_at xs at a) v k ∙ ap (moved k b (bit_at xs at a)) (put_word xs ys at a (bit_at xs at b) u k);
      low = λ k q. v.low k (omega arith) ∙ u.low k (omega arith);
      high = λ k q. v.high k (omega arith) ∙ u.high k (omega arith);
    }

-- the same of another memory that agrees in this row
pub crossing-same : (xs ys : List ℕ) (at a b o : ℕ) → ((k : ℕ) → get_or ys (at + k) 0 ≡ get_or xs (at + k) 0) → crossing ys at a b o ≡ crossing xs at a b o
unfolding crossing
crossing-same xs ys at a b o e = simp e

-- a column with itself, in one row and in all
crossing-self : (xs : List ℕ) (at a o : ℕ) → crossing xs at a a o ≡ get_or xs (at + o) 0
unfolding crossing
crossing-self xs at a o = go (ℕ_discrete o (a / 64))
  where
    go : Dec (o ≡ a / 64) → moved o a (bit_at xs at a) (moved o a (bit_at xs at a) (get_or xs (at + o) 0)) ≡ get_or xs (at + o) 0
    go (yes e) =
        rw (eq-eqb o (a / 64) e)
        (ap (λ (w : ℕ). with_bit w (a % 64) (bit_at xs at a)) once ∙ once)
      where
        once : with_bit (get_or xs (at + o) 0) (a % 64) (bit_at xs at a) ≡ get_or xs (at + o) 0
        once = ap (λ (i : ℕ). with_bit (get_or xs (at + o) 0) (a % 64) (bit (get_or xs (at + i) 0) (a % 64))) (sym e) ∙ with-self (get_or xs (at + o) 0) (a % 64)
    go (no d) = rw (ne_eqb o (a / 64) d)

pub crossed-same : (xs : List ℕ) (n a start k : ℕ) → get_or xs k 0 ≡ crossed_from xs n a a start k
crossed-same xs n a start k = go (ltb (k / n) start)
  where
    go : (t : Bool) → get_or xs k 0 ≡ pick t (get_or xs k 0) (crossing xs (k / n * n) a a (k % n))
    go true = refl
    go false = sym (crossing-self xs (k / n * n) a (k % n) ∙ ap (λ (i : ℕ). get_or xs i 0) (div-add-mod' k n))

module _ (xs : List ℕ) (n a b start : ℕ) where
  -- the rows before `start` stay
  pub crossed-before : (k : ℕ) → k / n < start → get_or xs k 0 ≡ crossed_from xs n a b start k
  crossed-before k h = rw (lt-ltb (k / n) start h)

  pub crossed-at : (r o : ℕ) → start ≤ r → o < n → crossing xs (r * n) a b o ≡ crossed_from xs n a b start (r * n + o)
  crossed-at r o h l = sym (simp (digits_div r l, digits_mod r l, le-ltb r start h))

  pub crossed-none : (m : ℕ) → m ≤ start → Written (crossed_from xs n a b start) xs xs 0 (m * n)
  crossed-none m h = written_same (crossed_from xs n a b start) xs (m * n) (λ k l. crossed-before k (below_row m n k start l h))

  -- a row more
  pub crossed-more : (ys zs : List ℕ) (r : ℕ) → start ≤ r → Written (crossed_from xs n a b start) xs ys 0 (r * n)
      → Written (crossing ys (r * n) a b) ys zs (r * n) n → Written (crossed_from xs n a b start) xs zs 0 ((r + 1) * n)
  crossed-more ys zs r h w u =
      written_is
      (written_then w (written_from u (sym (zero-add (r * n))))
      (λ k l. crossing-same xs ys (r * n) a b k (λ q. w.high (r * n + q) (omega arith)) ∙ crossed-at r k h l)) (omega arith)
