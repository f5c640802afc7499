-- Symbols of a slab: what a call that is not refused knows of its places, and that a call which writes one symbol changes no other.
-- Assumes nothing.
use mathlib.Core.Path.{◌≡◌, refl, sym, ap, ◌∙◌}
use mathlib.Core.Bool.{Bool, false}
use mathlib.Core.Logic.{⊎_elim}
use Rattle.std.specs.Prelude.{Result}
use mathlib.Core.List.{List}
use Prim.Native.Nat.{ℕ, ◌+◌, ◌*◌, ◌≤◌, ◌<◌}
use native.Mathlib.Decide.{ℕ_discrete, dec_lt}
use native.Mathlib.Omega.{arith}
use borrow.Author.Tests.{ltb-false, leb-false, eqb-false, ne_eqb}
use lib.Dec.{eqb, ltb, leb}
use lib.ListN.{length, get_or, drop, length-take, length-drop}
use lib.Seq.{ext_get_or}
use Rattle.field.specs.Octet.{plus}
use Rattle.field.specs.Runs.{Written, Apart, part, added, fused}
use Rattle.field.proofs.Laws.{one-times}
use Rattle.field.proofs.Writing.{written_as}
use Rattle.field.proofs.Parts.{part_at, block-ends, blocks-apart}
use Rattle.field.specs.Answer.{Outcome, given, refused, Tells}
use Rattle.field.proofs.Answers.{given-only}
use Rattle.field.specs.declared.refusal.Refusal.{Refusal}
use Rattle.slabs.specs.Slab.{Reached, physical, start, symbol, strange, addressable, addressable_pair, range_of, SymbolsAdded, SymbolsFused}
use Rattle.slabs.specs.declared.symbol_slab.SymbolSlab.{SymbolSlab}
use Rattle.field.proofs.Refusals.{passed, passed-before}

sound : (n count : ℕ) → strange n count ≡ false → (n ≡ 0 → ⊥) → n ≡ count
sound n count e h = go (ℕ_discrete n count)
  where
    go : Dec (n ≡ count) → n ≡ count
    go (yes q) = q
    go (no d) =
        let f = rw (ne_eqb n 0 h, ne_eqb n count d) at e in
        let z : ◌≡◌ {A = ℕ} 0 1 = cc in
        absurd (omega arith)

pub reached-by : (n count i : ℕ) → strange n count ≡ false → i < count → Reached n i
reached-by n count i e h z = omega (arith, h, sound n count e z)

pub record Addressed (len count t : ℕ) (order : List ℕ) (i : ℕ) : Type 0 where
  pub room : count * t ≤ len
  pub inside : i < count
  pub reached : Reached (length order) i
  pub there : physical order i < count

pub addressed-well : (len count t : ℕ) (order : List ℕ) (i : ℕ) → addressable len count t order i ≡ given tt → Addressed len count t order i
addressed-well len count t order i e =
    let a = passed (ltb 131070 count) 2 _ tt e in
    let b = passed (ltb len (count * t)) 8 _ tt a.1 in
    let c = passed (strange (length order) count) 8 _ tt b.1 in
    let d = passed (leb count i) 6 _ tt c.1 in
    let f = passed (leb count (physical order i)) 6 _ tt d.1 in
    let inside = leb-false count i d.0 in
    record {
      room = ltb-false _ _ b.0;
      inside = inside;
      reached = reached-by (length order) count i c.0 inside;
      there = leb-false _ _ f.0;
    }

pub record AddressedPair (len count t : ℕ) (order : List ℕ) (dest src : ℕ) : Type 0 where
  pub to : Addressed len count t order dest
  pub from : Addressed len count t order src
  pub differ : physical order dest ≡ physical order src → ⊥

pub addressed-pair-well : (len count t : ℕ) (order : List ℕ) (dest src : ℕ) → addressable_pair len count t order dest src ≡ given tt → AddressedPair len count t order dest src
addressed-pair-well len count t order dest src e =
    let a = passed-before (addressable len count t order dest) _ tt e in
    let b = passed-before (addressable len count t order src) _ tt a.2 in
    let c = passed (eqb (physical order dest) (physical order src)) 7 _ tt b.2 in
    record {
      to = addressed-well len count t order dest a.1;
      from = addressed-well len count t order src b.1;
      differ = eqb-false _ _ c.0;
    }

pub ends : {len count t : ℕ} {order : List ℕ} {i : ℕ} → Addressed len count t order i → physical order i * t + t ≤ len
ends {len} {count} {t} p = omega (arith, block-ends t p.there, p.room)

pub apart : {len count t : ℕ} {order : List ℕ} {dest src : ℕ} → AddressedPair len count t order dest src → Apart len t (physical order dest * t) (physical order src * t)
apart {len} {count} {t} {order} {dest} {src} p =
    record { to_in = ends p.to; from_in = ends p.from; apart = blocks-apart (physical order dest) (physical order src) t p.differ }

-- the range that is told lies in the store
pub range-well : (len count t : ℕ) (order : List ℕ) (i begin end : ℕ) → range_of len count t order i ≡ given (begin, end) → (begin ≤ end) × (end ≤ len)
range-well len count t order i begin end e =
    let a = passed-before (addressable len count t order i) _ (begin, end) e in
    let w = addressed-well len count t order i a.1 in
    let q = given-only (physical order i * t, physical order i * t + t) (begin, end) a.2 in
    omega (arith, ends w, ap (λ (r : ℕ × ℕ). r.0) q, ap (λ (r : ℕ × ℕ). r.1) q)

-- the bytes of the physical symbol that was written, and that no other has changed
module _ {f : ℕ → ℕ} {xs ys : List ℕ} (p t : ℕ) (w : Written f xs ys (p * t) t) where
  pub symbol-written : (k : ℕ) → k < t → get_or (part ys (p * t) t) k 0 ≡ f k
  symbol-written k h = part_at ys (p * t) t k h ∙ w.part k h

  pub symbol-other : (q : ℕ) → (q ≡ p → ⊥) → part ys (q * t) t ≡ part xs (q * t) t
  symbol-other q d = ext_get_or 0 (part ys (q * t) t) (part xs (q * t) t) long (λ k b. go k (omega (arith, length-take t (drop (q * t) ys))) (dec_lt q p))
    where
      long : length (part ys (q * t) t) ≡ length (part xs (q * t) t)
      long = simp (length-take, length-drop, w.size)

      go : (k : ℕ) → k < t → Dec (q < p) → get_or (part ys (q * t) t) k 0 ≡ get_or (part xs (q * t) t) k 0
      go k h (yes l) = let e = block-ends t l in part_at ys (q * t) t k h ∙ w.low (q * t + k) (omega arith) ∙ sym (part_at xs (q * t) t k h)
      go k h (no l) =
          let r : p < q = omega (arith, d) in
          let e = block-ends t r in
          part_at ys (q * t) t k h ∙ w.high (q * t + k) (omega arith) ∙ sym (part_at xs (q * t) t k h)

-- A sum with 1 times a symbol is a sum. The source is not written, so that its bytes are known from what is there afterwards.
module _ (xs ys : List ℕ) (slab : SymbolSlab) (order : List ℕ) (dest src : ℕ) (r : Result Bool Refusal) (octets : (k : ℕ) → get_or ys k 0 < 256) where
  abbrev to : ℕ
  to = start slab order dest

  abbrev from : ℕ
  from = start slab order src

  abbrev source : List ℕ
  source = symbol slab order src xs

  abbrev Told : Outcome (Unit {0}) → (ℕ → ℕ) → Type 0
  Told o f = Tells o xs f to slab.size r ys

  sum-written : Apart (length xs) slab.size to from → Written (fused xs to 1 source) xs ys to slab.size → Written (added xs to source) xs ys to slab.size
  sum-written a w = written_as w (λ k h. ap (plus (get_or xs (to + k) 0)) (one-times (get_or source k 0) (octet k h)))
    where
      octet : (k : ℕ) → k < slab.size → get_or source k 0 < 256
      octet k h =
          let same = ⊎_elim (λ u. w.high (from + k) (omega arith)) (λ u. w.low (from + k) (omega arith)) a.apart in
          omega (arith, part_at xs from slab.size k h, same, octets (from + k))

  by-outcome : (o : Outcome (Unit {0})) → addressable_pair (length xs) slab.count slab.size order dest src ≡ o → Told o (fused xs to 1 source)
      → Told o (added xs to source)
  by-outcome (given _) e u =
      let w = sum-written (apart (addressed-pair-well (length xs) slab.count slab.size order dest src e)) (rw u.0 at u.1) in
      (u.0, rw u.0 w)
  by-outcome (refused n) e u = (u.0, rw u.0 (rw u.0 at u.1))

  pub sum-told : SymbolsFused xs slab order dest src 1 r ys → SymbolsAdded xs slab order dest src r ys
  sum-told u = by-outcome _ refl u
