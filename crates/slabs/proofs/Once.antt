-- Each public function of `symbol_slab` is settled by its contract: two results that it allows, answers and memory, are the same.
-- Assumes nothing.
use mathlib.Core.Path.{◌≡◌, refl, sym, ◌∙◌}
use mathlib.Core.List.{List}
use Prim.Native.Nat.{ℕ, ◌*◌}
use lib.ListN.{length}
use Rattle.std.specs.Prelude.{Result}
use Rattle.field.specs.Runs.{added, fused, scaled}
use Rattle.field.specs.declared.refusal.Refusal.{Refusal}
use Rattle.field.proofs.Answers.{outcome_of-only}
use Rattle.field.proofs.Refusals.{Settled, settled-written, settled-told}
use Rattle.slabs.specs.Slab.{range_outcome, range_of, addressable, addressable_pair, start, symbol}
use Rattle.slabs.specs.Slab.{Zeroed, SymbolsAdded, SymbolScaled, SymbolsFused}
use Rattle.slabs.specs.declared.symbol_slab.Range.{Range}
use Rattle.slabs.specs.declared.symbol_slab.SymbolSlab.{SymbolSlab}

pub range-only : (a b : Result Range Refusal) → range_outcome a ≡ range_outcome b → a ≡ b
range-only = outcome_of-only (λ (r : Range). (r.start, r.end)) (λ x. record { start = x.0; end = x.1 }) (λ r. refl)

pub with-zeros-once : (xs : List ℕ) (count size : ℕ) → Settled (Zeroed xs count size)
with-zeros-once xs count size = settled-written _ xs (λ k. 0) 0 (count * size)

module _ (xs : List ℕ) (slab : SymbolSlab) (order : List ℕ) where
  pub get-once : (len i : ℕ) (a b : Result Range Refusal) → range_outcome a ≡ range_of len slab.count slab.size order i
      → range_outcome b ≡ range_of len slab.count slab.size order i → a ≡ b
  get-once len i a b p q = range-only a b (p ∙ sym q)

  pub add-assign-once : (dest src : ℕ) → Settled (SymbolsAdded xs slab order dest src)
  add-assign-once dest src =
      settled-told xs (added xs (start slab order dest) (symbol slab order src xs)) (start slab order dest) slab.size
      (addressable_pair (length xs) slab.count slab.size order dest src)

  pub mulassign-scalar-once : (dest c : ℕ) → Settled (SymbolScaled xs slab order dest c)
  mulassign-scalar-once dest c =
      settled-told xs (scaled c (symbol slab order dest xs)) (start slab order dest) slab.size (addressable (length xs) slab.count slab.size order dest)

  pub fma-once : (dest src c : ℕ) → Settled (SymbolsFused xs slab order dest src c)
  fma-once dest src c =
      settled-told xs (fused xs (start slab order dest) c (symbol slab order src xs)) (start slab order dest) slab.size
      (addressable_pair (length xs) slab.count slab.size order dest src)
