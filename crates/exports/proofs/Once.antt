-- Each call of the C interface that is told only by a number, or tells besides whether a symbol is all 0, is settled by its contract: two results that
-- it allows, the answer and the later content of what was lent, are the same. Of the others `called-once`, `listing-once` (Calls) and `solving-once`
-- (Solving) say so.
-- Assumes nothing.
use mathlib.Core.Path.{◌≡◌, sym, ap, ◌∙◌, subst}
use mathlib.Core.List.{List}
use mathlib.Core.Bool.{Bool}
use Prim.Native.Nat.{ℕ, ◌+◌}
use lib.ListN.{length}
use Rattle.std.specs.Prelude.{Result}
use Rattle.field.specs.Answer.{Outcome, Left, Does, given, outcome}
use Rattle.field.specs.Runs.{added, fused, scaled}
use Rattle.field.specs.declared.refusal.Refusal.{Refusal}
use Rattle.field.proofs.Refusals.{Settled, settled-told}
use Rattle.headers.specs.Headers.{IdStored, InfoStored, PacketStored}
use Rattle.headers.proofs.Answers.{stores-only}
use Rattle.slabs.specs.Slab.{SymbolScaled, SymbolsAdded, SymbolsFused, Zeroed}
use Rattle.slabs.proofs.Once as slabs
use Rattle.stores.specs.Matrix.{Cleared, ColumnsSwapped, EntrySet, Resized, RowsAdded, RowsSwapped, shape}
use Rattle.stores.proofs.Once as matrices
use Rattle.constraints.specs.Answers.{HdpcRows, Walked}
use Rattle.constraints.proofs.Settled.{rows-only, walked-only}
use Rattle.builders.specs.Built.{Builds}
use Rattle.builders.proofs.Settled.{builds-only}
use Rattle.encoding.specs.Encoded.{Encodes}
use Rattle.encoding.proofs.Settled.{encodes-only}
use Rattle.exports.specs.Call.{Reports, ReportsBy, code}
use Rattle.headers.specs.declared.row.Row.{Row}
use Rattle.exports.specs.Numbers.{id, info, row, slab, tuple}
use Rattle.exports.specs.Stores.{RunAdded, RunFused, RunScaled, TellsZero, countable, same_length}
use Rattle.exports.proofs.Calls.{zero-told-once}

module _ {R A : Type 0} (of : R → Outcome A) {C : R → List ℕ → Type 0} where
  -- what the layer below settles, whatever it answers
  pub reports-once-by : Settled C → Settled (ReportsBy of C)
  reports-once-by once q r ys zs u w =
      let e = once u.below w.below ys zs u.meets w.meets in
      (u.result ∙ ap (λ (a : R). code (of a)) e.0 ∙ sym w.result, e.1)

  -- and that the number is the outcome's: 0, and memory as P says, or the refusal's, and memory as it was
  pub reports-outcome-by : (o : Outcome A) (xs : List ℕ) (P : List ℕ → Type 0) {ys : List ℕ} {r : ℕ}
      → ((a : R) → C a ys → (of a ≡ o) × Left (of a) xs ys (P ys)) → ReportsBy of C r ys → (r ≡ code o) × Left o xs ys (P ys)
  reports-outcome-by o xs P {ys} means u =
      let d = means u.below u.meets in
      (u.result ∙ ap code d.0, subst (λ (p : Outcome A). Left p xs ys (P ys)) d.0 d.1)

module _ {A : Type 0} {C : Result A Refusal → List ℕ → Type 0} where
  by : {r : ℕ} {ys : List ℕ} → Reports C r ys → ReportsBy outcome C r ys
  by u = record { below = u.below; meets = u.meets; result = u.result }

  -- the same of an answer that `outcome` reads
  pub reports-once : Settled C → Settled (Reports C)
  reports-once once q r ys zs u w = reports-once-by outcome once q r ys zs (by u) (by w)

  pub reports-outcome : (o : Outcome A) (xs : List ℕ) (P : List ℕ → Type 0) {ys : List ℕ} {r : ℕ}
      → ((a : Result A Refusal) → C a ys → Does o xs P a ys) → Reports C r ys → (r ≡ code o) × Left o xs ys (P ys)
  reports-outcome o xs P means u = reports-outcome-by outcome o xs P means (by u)

-- ---- runs

-- three things are settled of a call that writes a symbol and tells whether it is all 0: its number, the store and the slice for the flag
abbrev pub ToldOnce : Outcome (Unit {0}) → (Result Bool Refusal → List ℕ → Type 0) → List ℕ → Type 0
ToldOnce limits C xs =
    (out m n ys zs : List ℕ) (q r : ℕ) → TellsZero limits C xs ys out m q → TellsZero limits C xs zs out n r → (q ≡ r) × (ys ≡ zs) × (m ≡ n)

pub run-add-once : (xs s : List ℕ) → ToldOnce (given tt) (RunAdded xs s) xs
run-add-once xs s out m n ys zs q r = zero-told-once (settled-told xs (added xs 0 s) 0 (length s) (same_length xs s))

pub run-scale-once : (xs : List ℕ) (c : ℕ) → ToldOnce (given tt) (RunScaled xs c) xs
run-scale-once xs c out m n ys zs q r = zero-told-once (settled-told xs (scaled c xs) 0 (length xs) (given tt))

pub run-fma-once : (xs s : List ℕ) (c : ℕ) → ToldOnce (given tt) (RunFused xs s c) xs
run-fma-once xs s c out m n ys zs q r = zero-told-once (settled-told xs (fused xs 0 c s) 0 (length s) (same_length xs s))

-- ---- symbols

module _ (xs : List ℕ) (count t : ℕ) where
  pub slab-with-zeros-once : Settled (Reports (Zeroed xs count t))
  slab-with-zeros-once = reports-once (slabs.with-zeros-once xs count t)

  pub slab-add-assign-once : (order : List ℕ) (dest src : ℕ) → ToldOnce (countable count) (SymbolsAdded xs (slab count t) order dest src) xs
  slab-add-assign-once order dest src out m n ys zs q r = zero-told-once (slabs.add-assign-once xs (slab count t) order dest src)

  pub slab-mulassign-scalar-once : (order : List ℕ) (dest c : ℕ) → ToldOnce (countable count) (SymbolScaled xs (slab count t) order dest c) xs
  slab-mulassign-scalar-once order dest c out m n ys zs q r = zero-told-once (slabs.mulassign-scalar-once xs (slab count t) order dest c)

  pub slab-fma-once : (order : List ℕ) (dest src c : ℕ) → ToldOnce (countable count) (SymbolsFused xs (slab count t) order dest src c) xs
  slab-fma-once order dest src c out m n ys zs q r = zero-told-once (slabs.fma-once xs (slab count t) order dest src c)

-- ---- matrices

module _ (xs : List ℕ) (height width : ℕ) where
  pub matrix-new-once : Settled (Reports (Cleared xs height width))
  matrix-new-once = reports-once (matrices.new-once xs height width)

  pub matrix-set-once : (i j v : ℕ) → Settled (Reports (EntrySet xs (shape height width) i j v))
  matrix-set-once i j v = reports-once (matrices.set-once xs (shape height width) i j v)

  pub matrix-swap-rows-once : (i j : ℕ) → Settled (Reports (RowsSwapped xs (shape height width) i j))
  matrix-swap-rows-once i j = reports-once (matrices.swap-rows-once xs (shape height width) i j)

  pub matrix-swap-columns-once : (i j start : ℕ) → Settled (Reports (ColumnsSwapped xs (shape height width) i j start))
  matrix-swap-columns-once i j start = reports-once (matrices.swap-columns-once xs (shape height width) i j start)

  pub matrix-add-assign-rows-once : (dest src : ℕ) → Settled (Reports (RowsAdded xs (shape height width) dest src))
  matrix-add-assign-rows-once dest src = reports-once (matrices.add-assign-rows-once xs (shape height width) dest src)

  pub matrix-resize-once : (h w : ℕ) → Settled (Reports (Resized xs (shape height width) h w))
  matrix-resize-once h w = reports-once (matrices.resize-once xs (shape height width) h w)

-- ---- headers

pub payload-id-write-once : (sbn esi : ℕ) (xs : List ℕ) → Settled (Reports (λ a ys. IdStored (id sbn esi) xs ys a))
payload-id-write-once sbn esi xs = reports-once (λ a b ys zs u w. stores-only u w)

pub transmission-write-once : (f t z n al : ℕ) (xs : List ℕ) → Settled (Reports (λ a ys. InfoStored (info f t z n al) xs ys a))
transmission-write-once f t z n al xs = reports-once (λ a b ys zs u w. stores-only u w)

pub packet-write-once : (sbn esi : ℕ) (bs xs : List ℕ) → Settled (Reports (λ a ys. PacketStored (id sbn esi) bs xs ys a))
packet-write-once sbn esi bs xs = reports-once (λ a b ys zs u w. stores-only u w)

-- ---- rows of the system, and the encoding of a symbol

module _ (k j s h w l p b p1 : ℕ) where
  -- any nine numbers
  abbrev r : Row
  r = row k j s h w l p b p1

  pub enc-indices-once : (d a b d1 a1 b1 : ℕ) (xs : List ℕ) → Settled (Reports (λ n ys. Walked r (tuple d a b d1 a1 b1) xs ys n))
  enc-indices-once d a b d1 a1 b1 xs = reports-once (λ p q ys zs u v. walked-only u v)

  pub hdpc-rows-once : (v xs : List ℕ) → Settled (Reports (λ a ys. HdpcRows v r xs ys a))
  hdpc-rows-once v xs = reports-once (λ a b ys zs u v. rows-only u v)

  pub constraint-matrix-once : (v isis xs : List ℕ) → Settled (Reports (λ m ys. Builds v isis r h k xs ys m))
  constraint-matrix-once v isis xs = reports-once (λ a b ys zs u v. builds-only u v)

  pub constraint-matrix-no-hdpc-once : (v isis xs : List ℕ) → Settled (Reports (λ m ys. Builds v isis r 0 (k + h) xs ys m))
  constraint-matrix-no-hdpc-once v isis xs = reports-once (λ a b ys zs u v. builds-only u v)

  pub encode-once : (v : List ℕ) (count t esi : ℕ) (C xs : List ℕ) → Settled (Reports (λ a ys. Encodes v r count t esi C xs ys a))
  encode-once v count t esi C xs = reports-once (λ a b ys zs u v. encodes-only u v)
