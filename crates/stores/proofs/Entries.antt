-- Entry by entry, what the operations on a binary matrix leave: over the contracts' words, and of every column that the row's
-- words hold, the bits past the width too.
-- Assumes nothing.
use mathlib.Core.Path.{◌≡◌, refl, sym, ap, ◌∙◌}
use mathlib.Core.List.{List}
use mathlib.Core.Logic.{◌⊎◌, inl, inr, ⊎_elim}
use Prim.Native.Nat.{ℕ, ◌+◌, ◌*◌, ◌/◌, ◌%◌, ◌^◌, ◌≤◌, ◌<◌}
use native.Mathlib.Nat.{zero-add, zero-div}
use native.Mathlib.Decide.{ℕ_discrete}
use native.Mathlib.Omega.{arith}
use borrow.Author.Tests.{eq-eqb, ne_eqb}
use lib.Arith.{digits_div, digits_mod}
use lib.Dec.{eqb}
use lib.ListN.{get_or}
use Rattle.field.specs.Choice.{pick}
use Rattle.field.specs.Octet.{plus}
use Rattle.field.specs.Runs.{Written, added, part}
use Rattle.field.proofs.Parts.{part_at, block-ends, blocks-apart}
use Rattle.field.proofs.Writing.{written_same, written_once}
use Rattle.stores.specs.Bits.{bit, moved, crossing, crossed_from}
use Rattle.stores.specs.Rows.{packed_to, Exchanged}
use Rattle.stores.specs.Matrix.{row_words, words_of, row_at, entry, shape}
use Rattle.stores.specs.declared.matrix.DenseBinaryMatrix.{DenseBinaryMatrix}
use Rattle.stores.proofs.Bits.{bit-lt, xor-bit}
use Rattle.stores.proofs.Rows.{exchanged_same, exchanged-once}
use Rattle.stores.proofs.Columns.{Put, put-column, moved-bit, crossed-at, crossed-before, crossed-none, crossed-same}

-- a word of another row lies before or after this one
elsewhere : (r i n o : ℕ) → o < n → (r ≡ i → ⊥) → (r * n + o < i * n) ⊎ (i * n + n ≤ r * n + o)
elsewhere r i n o h d = ⊎_elim (λ a. inl (omega arith)) (λ a. inr (omega arith)) (blocks-apart r i n d)

module _ (m : DenseBinaryMatrix) (xs ys : List ℕ) where
  pub entry_lt : (r c : ℕ) → entry m xs r c < 2
  entry_lt r c = bit-lt (get_or xs (row_at m r + c / 64) 0) (c % 64)

  same_word : (r s c : ℕ) → get_or ys (row_at m r + c / 64) 0 ≡ get_or xs (row_at m s + c / 64) 0 → entry m ys r c ≡ entry m xs s c
  same_word r s c e = ap (λ (w : ℕ). bit w (c % 64)) e

  -- `new`: every entry is 0
  pub new-entry : Written (λ k. 0) xs ys 0 (words_of m) → (r c : ℕ) → r < m.height → c / 64 < row_words m.width → entry m ys r c ≡ 0
  new-entry w r c h l =
      let e = block-ends (row_words m.width) h in
      ap (λ (i : ℕ). bit (get_or ys i 0) (c % 64)) (sym (zero-add (row_at m r + c / 64)))
      ∙ ap (λ (x : ℕ). bit x (c % 64)) (w.part (row_at m r + c / 64) (omega arith)) ∙ none (c % 64)
    where
      none : (k : ℕ) → bit 0 k ≡ 0
      none k = ap (λ (x : ℕ). x % 2) (zero-div (2 ^ k))

  -- `set`: the entry that was set, and the others
  module _ (i j v : ℕ) (w : Put xs ys (row_at m i) j v) (h : v < 2) (l : j / 64 < row_words m.width) where
    in_row : (c : ℕ) → entry m ys i c ≡ pick (eqb c j) v (entry m xs i c)
    in_row = put-column xs ys (row_at m i) j v w h

    pub set-entry : entry m ys i j ≡ v
    set-entry = in_row j ∙ rw (eq-eqb j j refl)

    pub set_other : (r c : ℕ) → c / 64 < row_words m.width → ((r ≡ i) × (c ≡ j) → ⊥) → entry m ys r c ≡ entry m xs r c
    set_other r c k d = go (ℕ_discrete r i)
      where
        go : Dec (r ≡ i) → entry m ys r c ≡ entry m xs r c
        go (yes e) = let n : (c ≡ j) → ⊥ = λ z. d (e, z) in rw e (in_row c ∙ rw (ne_eqb c j n))
        go (no n) = same_word r r c (⊎_elim (λ a. w.low _ (omega arith)) (λ a. w.high _ (omega arith)) (elsewhere r i (row_words m.width) (c / 64) k n))

  -- `add_assign_rows`: each entry of the sum is the sum of the entries, and the other rows stay
  module _ (dest src : ℕ) (w : Written (added xs (row_at m dest) (part xs (row_at m src) (row_words m.width))) xs ys (row_at m dest) (row_words m.width)) where
    pub sum-entry : (c : ℕ) → c / 64 < row_words m.width → entry m ys dest c ≡ plus (entry m xs dest c) (entry m xs src c)
    sum-entry c h =
        ap (λ (x : ℕ). bit x (c % 64)) (w.part (c / 64) h)
        ∙ xor-bit (get_or xs (row_at m dest + c / 64) 0) (get_or (part xs (row_at m src) (row_words m.width)) (c / 64) 0) (c % 64)
        ∙ ap (λ (x : ℕ). plus (entry m xs dest c) (bit x (c % 64))) (part_at xs (row_at m src) (row_words m.width) (c / 64) h)

    pub sum-other : (r c : ℕ) → c / 64 < row_words m.width → (r ≡ dest → ⊥) → entry m ys r c ≡ entry m xs r c
    sum-other r c h d =
        same_word r r c (⊎_elim (λ a. w.low _ a) (λ a. w.high _ a) (elsewhere r dest (row_words m.width) (c / 64) h d))

  -- `swap_rows`
  module _ (i j : ℕ) (e : Exchanged xs ys (row_at m i) (row_at m j) (row_words m.width)) where
    pub swapped-first : (c : ℕ) → c / 64 < row_words m.width → entry m ys i c ≡ entry m xs j c
    swapped-first c h = same_word i j c (e.first (c / 64) h)

    pub swapped-second : (c : ℕ) → c / 64 < row_words m.width → entry m ys j c ≡ entry m xs i c
    swapped-second c h = same_word j i c (e.second (c / 64) h)

    pub swapped_other : (r c : ℕ) → c / 64 < row_words m.width → (r ≡ i → ⊥) → (r ≡ j → ⊥) → entry m ys r c ≡ entry m xs r c
    swapped_other r c h d n =
        same_word r r c
        (e.rest _ (elsewhere r i (row_words m.width) (c / 64) h d) (elsewhere r j (row_words m.width) (c / 64) h n))

  -- a row with itself: nothing changes
  pub swapped-self : (i : ℕ) → Exchanged xs ys (row_at m i) (row_at m i) (row_words m.width) → ys ≡ xs
  swapped-self i e = exchanged-once e (exchanged_same xs (row_at m i) (row_words m.width))

  -- `swap_columns`: from the start row on columns a and b have changed places, and nothing else has moved
  module _ (a b start : ℕ) (w : Written (crossed_from xs (row_words m.width) a b start) xs ys 0 (words_of m)) where
    word : (r c : ℕ) → r < m.height → c / 64 < row_words m.width → get_or ys (row_at m r + c / 64) 0 ≡ crossed_from xs (row_words m.width) a b start (row_at m r + c / 64)
    word r c h l =
        let e = block-ends (row_words m.width) h in
        ap (λ (i : ℕ). get_or ys i 0) (sym (zero-add (row_at m r + c / 64))) ∙ w.part (row_at m r + c / 64) (omega arith)

    pub crossed-entry : (r c : ℕ) → start ≤ r → r < m.height → c / 64 < row_words m.width
        → entry m ys r c ≡ pick (eqb c b) (entry m xs r a) (pick (eqb c a) (entry m xs r b) (entry m xs r c))
    unfolding crossing
    crossed-entry r c s h l =
        ap (λ (x : ℕ). bit x (c % 64)) (word r c h l ∙ sym (crossed-at xs (row_words m.width) a b start r (c / 64) s l))
        ∙ moved-bit c b (entry m xs r a) (moved (c / 64) a (entry m xs r b) (get_or xs (row_at m r + c / 64) 0)) (entry_lt r a)
        ∙ ap (pick (eqb c b) (entry m xs r a)) (moved-bit c a (entry m xs r b) (get_or xs (row_at m r + c / 64) 0) (entry_lt r b))

    pub crossed-other : (r c : ℕ) → r < start → r < m.height → c / 64 < row_words m.width → entry m ys r c ≡ entry m xs r c
    crossed-other r c s h l =
        same_word r r c
        (word r c h l
        ∙ sym (crossed-before xs (row_words m.width) a b start (row_at m r + c / 64)
        (let e : (row_at m r + c / 64) / row_words m.width ≡ r = digits_div r l in omega arith)))

    -- a start row at or past the height: nothing changes
    pub crossed-past : m.height ≤ start → ys ≡ xs
    crossed-past h = written_once w (crossed-none xs (row_words m.width) a b start m.height h)

  -- a column with itself: nothing changes
  pub crossed-self : (a start : ℕ) → Written (crossed_from xs (row_words m.width) a a start) xs ys 0 (words_of m) → ys ≡ xs
  crossed-self a start w =
      written_once w (written_same (crossed_from xs (row_words m.width) a a start) xs (words_of m) (λ k h. crossed-same xs (row_words m.width) a start k))

  -- `resize`: the entries that are kept stand in the new matrix
  pub packed-entry : (height width : ℕ) → Written (packed_to xs (row_words width) (row_words m.width)) xs ys 0 (words_of (shape height width))
      → (r c : ℕ) → r < height → c / 64 < row_words width → entry (shape height width) ys r c ≡ entry m xs r c
  packed-entry height width w r c h l =
      let e = block-ends (row_words width) h in
      ap (λ (x : ℕ). bit x (c % 64))
      (ap (λ (i : ℕ). get_or ys i 0) (sym (zero-add (r * row_words width + c / 64))) ∙ w.part (r * row_words width + c / 64) (omega arith)
      ∙ simp (digits_div r l, digits_mod r l))
