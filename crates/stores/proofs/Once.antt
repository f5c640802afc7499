-- Each public function of `matrix` is settled by its contract: two results that it allows, answers and memory, are the same.
-- Assumes nothing.
use mathlib.Core.Path.{◌≡◌, sym, ◌∙◌}
use mathlib.Core.List.{List}
use Prim.Native.Nat.{ℕ, ◌+◌, ◌-◌, ◌/◌, ◌%◌}
use lib.ListN.{length, get_or}
use Rattle.std.specs.Prelude.{Result}
use Rattle.field.specs.Answer.{outcome}
use Rattle.field.specs.Ones.{ones}
use Rattle.field.specs.Runs.{added, part}
use Rattle.field.specs.declared.refusal.Refusal.{Refusal}
use Rattle.field.proofs.Answers.{outcome-only}
use Rattle.field.proofs.Refusals.{Settled, settled, settled-written}
use Rattle.stores.specs.Bits.{with_bit, crossed_from}
use Rattle.stores.specs.Rows.{Exchanged, packed_to}
use Rattle.stores.specs.Matrix.{entry, shape, row_at, row_words, words_of, one_of, got, ones_of}
use Rattle.stores.specs.Matrix.{Cleared, EntrySet, RowsListed, ColumnsListed, RowsSwapped, ColumnsSwapped, RowsAdded, Resized}
use Rattle.stores.specs.declared.matrix.DenseBinaryMatrix.{DenseBinaryMatrix}
use Rattle.stores.proofs.Rows.{exchanged-once}

module _ (xs : List ℕ) where
  pub new-once : (height width : ℕ) → Settled (Cleared xs height width)
  new-once height width = settled-written _ xs (λ k. 0) 0 (words_of (shape height width))

module _ (xs : List ℕ) (m : DenseBinaryMatrix) where
  pub get-once : (i j : ℕ) (a b : Result ℕ Refusal) → outcome a ≡ got xs m i j → outcome b ≡ got xs m i j → a ≡ b
  get-once i j a b p q = outcome-only a b (p ∙ sym q)

  pub set-once : (i j v : ℕ) → Settled (EntrySet xs m i j v)
  set-once i j v = settled-written _ xs (λ k. with_bit (get_or xs (row_at m i + j / 64) 0) (j % 64) (one_of v)) (row_at m i + j / 64) 1

  pub count-ones-once : (i start end : ℕ) (a b : Result ℕ Refusal) → outcome a ≡ ones_of xs m i start end → outcome b ≡ ones_of xs m i start end → a ≡ b
  count-ones-once i start end a b p q = outcome-only a b (p ∙ sym q)

  pub ones-in-column-once : (j start end : ℕ) (out : List ℕ) → Settled (RowsListed xs m j start end out)
  ones-in-column-once j start end out =
      let l = ones (λ i. entry m xs i j) start (end - start) in
      settled-written _ out (λ k. get_or l k 0) 0 (length l)

  pub non-zero-columns-once : (i start : ℕ) (out : List ℕ) → Settled (ColumnsListed xs m i start out)
  non-zero-columns-once i start out =
      let l = ones (entry m xs i) start (m.width - start) in
      settled-written _ out (λ k. get_or l k 0) 0 (length l)

  pub swap-rows-once : (i j : ℕ) → Settled (RowsSwapped xs m i j)
  swap-rows-once i j = settled _ xs (λ ys. Exchanged xs ys (row_at m i) (row_at m j) (row_words m.width)) (λ ys zs u v. exchanged-once u v)

  pub swap-columns-once : (i j start : ℕ) → Settled (ColumnsSwapped xs m i j start)
  swap-columns-once i j start = settled-written _ xs (crossed_from xs (row_words m.width) i j start) 0 (words_of m)

  pub add-assign-rows-once : (dest src : ℕ) → Settled (RowsAdded xs m dest src)
  add-assign-rows-once dest src =
      settled-written _ xs (added xs (row_at m dest) (part xs (row_at m src) (row_words m.width))) (row_at m dest) (row_words m.width)

  pub resize-once : (height width : ℕ) → Settled (Resized xs m height width)
  resize-once height width = settled-written _ xs (packed_to xs (row_words width) (row_words m.width)) 0 (words_of (shape height width))
