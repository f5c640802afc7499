-- A binary matrix in its store: what a call that is not refused knows of its places.
-- Assumes nothing.
use mathlib.Core.Path.{◌≡◌}
use Prim.Native.Nat.{ℕ, ◌+◌, ◌-◌, ◌*◌, ◌/◌, ◌≤◌, ◌<◌}
use native.Mathlib.Nat.{mul-le-mul_right}
use native.Mathlib.Omega.{arith}
use borrow.Author.Tests.{ltb-false, leb-false}
use lib.Dec.{ltb, leb}
use Rattle.field.proofs.Parts.{block-ends, blocks-apart}
use Rattle.field.specs.Runs.{Apart}
use Rattle.field.specs.Answer.{given}
use Rattle.field.proofs.Refusals.{passed, passed-before}
use Rattle.stores.specs.Matrix.{row_words, words_of, row_at, limited, stored, placed, ranged, roomy, paired, spanned, listable, shrinkable}
use Rattle.stores.specs.declared.matrix.DenseBinaryMatrix.{DenseBinaryMatrix}

pub limited-well : (height width : ℕ) → limited height width ≡ given tt → (height ≤ 131070) × (width ≤ 65535)
limited-well height width e =
    let a = passed (ltb 131070 height) 2 _ tt e in
    let b = passed (ltb 65535 width) 2 _ tt a.1 in
    (ltb-false _ _ a.0, ltb-false _ _ b.0)

pub record Stored (len : ℕ) (m : DenseBinaryMatrix) : Type 0 where
  pub tall : m.height ≤ 131070
  pub wide : m.width ≤ 65535
  pub room : words_of m ≤ len

pub stored-well : (len : ℕ) (m : DenseBinaryMatrix) → stored len m ≡ given tt → Stored len m
stored-well len m e =
    let a = passed-before (limited m.height m.width) _ tt e in
    let b = passed (ltb len (words_of m)) 8 _ tt a.2 in
    let l = limited-well m.height m.width a.1 in
    record { tall = l.0; wide = l.1; room = ltb-false _ _ b.0 }

pub placed-well : (n i : ℕ) → placed n i ≡ given tt → i < n
placed-well n i e = leb-false _ _ (passed (leb n i) 6 _ tt e).0

pub record Paired (len : ℕ) (m : DenseBinaryMatrix) (n i k j : ℕ) : Type 0 where
  pub store : Stored len m
  pub first : i < n
  pub second : j < k

pub paired-well : (len : ℕ) (m : DenseBinaryMatrix) (n i k j : ℕ) → paired len m n i k j ≡ given tt → Paired len m n i k j
paired-well len m n i k j e =
    let a = passed-before (stored len m) _ tt e in
    let b = passed-before (placed n i) _ tt a.2 in
    record { store = stored-well len m a.1; first = placed-well n i b.1; second = placed-well k j b.2 }

-- a column lies in one of the row's words
pub column-word : (width j : ℕ) → j < width → j / 64 < row_words width
column-word width j h = omega arith

pub row-in : {len : ℕ} {m : DenseBinaryMatrix} {i : ℕ} → Stored len m → i < m.height → row_at m i + row_words m.width ≤ len
row-in {len} {m} {i} s h = omega (arith, block-ends (row_words m.width) h, s.room)

pub word_in : {len : ℕ} {m : DenseBinaryMatrix} {i j : ℕ} → Paired len m m.height i m.width j → row_at m i + j / 64 < len
word_in {len} {m} {i} {j} p = omega (arith, row-in p.store p.first, column-word m.width j p.second)

-- two rows that differ do not meet
pub apart : {len : ℕ} {m : DenseBinaryMatrix} {i j : ℕ} → Paired len m m.height i m.height j → (i ≡ j → ⊥)
    → Apart len (row_words m.width) (row_at m i) (row_at m j)
apart {len} {m} {i} {j} p d =
    record { to_in = row-in p.store p.first; from_in = row-in p.store p.second; apart = blocks-apart i j (row_words m.width) d }

pub ranged-well : (n start end : ℕ) → ranged n start end ≡ given tt → (start ≤ end) × (end ≤ n)
ranged-well n start end e =
    let a = passed (ltb end start) 6 _ tt e in
    let b = passed (ltb n end) 6 _ tt a.1 in
    (ltb-false _ _ a.0, ltb-false _ _ b.0)

pub record Spanned (len : ℕ) (m : DenseBinaryMatrix) (i start end : ℕ) : Type 0 where
  pub store : Stored len m
  pub inside : i < m.height
  pub rising : start ≤ end
  pub ends : end ≤ m.width

pub spanned-well : (len : ℕ) (m : DenseBinaryMatrix) (i start end : ℕ) → spanned len m i start end ≡ given tt → Spanned len m i start end
spanned-well len m i start end e =
    let a = passed-before (stored len m) _ tt e in
    let b = passed-before (placed m.height i) _ tt a.2 in
    let r = ranged-well m.width start end b.2 in
    record { store = stored-well len m a.1; inside = placed-well m.height i b.1; rising = r.0; ends = r.1 }

pub record Listable (len : ℕ) (m : DenseBinaryMatrix) (room n i k start end : ℕ) : Type 0 where
  pub store : Stored len m
  pub roomy : end - start ≤ room
  pub inside : i < n
  pub rising : start ≤ end
  pub ends : end ≤ k

pub listable-well : (len : ℕ) (m : DenseBinaryMatrix) (room n i k start end : ℕ) → listable len m room n i k start end ≡ given tt
    → Listable len m room n i k start end
listable-well len m room n i k start end e =
    let a = passed-before (stored len m) _ tt e in
    let b = passed-before (roomy room start end) _ tt a.2 in
    let c = passed-before (placed n i) _ tt b.2 in
    let r = ranged-well k start end c.2 in
    record {
      store = stored-well len m a.1;
      roomy = ltb-false _ _ (passed (ltb room (end - start)) 8 _ tt b.1).0;
      inside = placed-well n i c.1;
      rising = r.0;
      ends = r.1;
    }

-- the columns up to `end` lie in the row's words
pub span-in : {len : ℕ} {m : DenseBinaryMatrix} {i start end : ℕ} → Stored len m → i < m.height → start ≤ end → end ≤ m.width
    → (start + (end - start) ≤ 65535) × (row_at m i + (start + (end - start) + 63) / 64 ≤ len)
span-in {len} {m} {i} {start} {end} s h l k =
    let e : start + (end - start) ≡ end = omega arith in
    rw e (omega (arith, s.wide), omega (arith, row-in s h))

-- the rows up to `end` lie in the store
pub rows_in : {len : ℕ} {m : DenseBinaryMatrix} {start end : ℕ} → Stored len m → start ≤ end → end ≤ m.height
    → ((start + (end - start)) * row_words m.width ≤ len) × (start + (end - start) < 4294967296)
rows_in {len} {m} {start} {end} s l k =
    let e : start + (end - start) ≡ end = omega arith in
    rw e (omega (arith, mul-le-mul_right (row_words m.width) k, s.room), omega (arith, s.tall))

pub record Shrinkable (len : ℕ) (m new : DenseBinaryMatrix) : Type 0 where
  pub store : Stored len m
  pub wide : new.width ≤ 65535
  pub shorter : new.height ≤ m.height
  pub narrower : new.width ≤ m.width

pub shrinkable-well : (len : ℕ) (m new : DenseBinaryMatrix) → shrinkable len m new ≡ given tt → Shrinkable len m new
shrinkable-well len m new e =
    let a = passed-before (limited new.height new.width) _ tt e in
    let b = passed-before (stored len m) _ tt a.2 in
    let c = passed (ltb m.height new.height) 6 _ tt b.2 in
    let d = passed (ltb m.width new.width) 6 _ tt c.1 in
    record {
      store = stored-well len m b.1;
      wide = (limited-well new.height new.width a.1).1;
      shorter = ltb-false _ _ c.0;
      narrower = ltb-false _ _ d.0;
    }

-- the rows that are kept lie in the store, and their words among the old
pub shrunk-in : {len : ℕ} {m new : DenseBinaryMatrix} → Shrinkable len m new
    → (row_words new.width ≤ row_words m.width) × (new.height * row_words m.width ≤ len)
shrunk-in {len} {m} {new} s = (omega (arith, s.narrower), omega (arith, mul-le-mul_right (row_words m.width) s.shorter, s.store.room))
