-- Symbols in lent bytes (document 01, 'Matrices and slab'; symbol_slab.rs): where symbol i lies, and which calls are refused.
-- Assumes nothing.
use Rattle.std.specs.Prelude.{◌≡◌, Bool, not, List, Result, ℕ, ◌+◌, ◌*◌, ◌<◌, eqb, ltb, leb, length, get_or}
use Rattle.field.specs.Answer.{Outcome, given, unless, before, Does, Tells, outcome_of}
use Rattle.field.specs.Choice.{pick, both}
use Rattle.field.specs.Runs.{Written, part, added, fused, scaled}
use Rattle.field.specs.declared.refusal.Refusal.{Refusal}
use Rattle.slabs.specs.declared.symbol_slab.Range.{Range}
use Rattle.slabs.specs.declared.symbol_slab.SymbolSlab.{SymbolSlab}

-- where an order puts symbol i; an order of length 0 is none
abbrev pub physical : List ℕ → ℕ → ℕ
physical order i = pick (eqb (length order) 0) i (get_or order i 0)

-- where its bytes begin, and its bytes
abbrev pub start : SymbolSlab → List ℕ → ℕ → ℕ
start slab order i = physical order i * slab.size

abbrev pub symbol : SymbolSlab → List ℕ → ℕ → List ℕ → List ℕ
symbol slab order i xs = part xs (start slab order i) slab.size

-- a length of an order that is neither 0 nor the count
abbrev pub strange : ℕ → ℕ → Bool
strange n count = both (not (eqb n 0)) (not (eqb n count))

-- an order of n entries has one for i, if it has any
abbrev pub Reached : ℕ → ℕ → Type 0
Reached n i = (n ≡ 0 → ⊥) → i < n

-- the refusals of a call on symbol i: 2 for the count, 8 for the store and the order, 6 for i and for what the order says of it
abbrev pub addressable : ℕ → ℕ → ℕ → List ℕ → ℕ → Outcome (Unit {0})
addressable len count t order i =
    unless (ltb 131070 count) 2
    (unless (ltb len (count * t)) 8
    (unless (strange (length order) count) 8
    (unless (leb count i) 6
    (unless (leb count (physical order i)) 6
    (given tt)))))

-- those of a call on two symbols: the same for each, and 7 if they are one
abbrev pub addressable_pair : ℕ → ℕ → ℕ → List ℕ → ℕ → ℕ → Outcome (Unit {0})
addressable_pair len count t order dest src =
    before (addressable len count t order dest)
    (before (addressable len count t order src)
    (unless (eqb (physical order dest) (physical order src)) 7
    (given tt)))

-- where symbol i begins and ends
abbrev pub range_of : ℕ → ℕ → ℕ → List ℕ → ℕ → Outcome (ℕ × ℕ)
range_of len count t order i = before (addressable len count t order i) (given (physical order i * t, physical order i * t + t))

-- what a range that is told stands for: where it begins and ends
abbrev pub range_outcome : Result Range Refusal → Outcome (ℕ × ℕ)
range_outcome = outcome_of (λ r. (r.start, r.end))

-- The calls. xs is the store at entry and ys at exit, r the answer.

abbrev pub Zeroed : List ℕ → ℕ → ℕ → Result SymbolSlab Refusal → List ℕ → Type 0
Zeroed xs count t =
    Does (unless (ltb 131070 count) 2 (unless (ltb (length xs) (count * t)) 8 (given record { count = count; size = t }))) xs
    (λ ys. Written (λ k. 0) xs ys 0 (count * t))

abbrev pub SymbolsAdded : List ℕ → SymbolSlab → List ℕ → ℕ → ℕ → Result Bool Refusal → List ℕ → Type 0
SymbolsAdded xs slab order dest src =
    Tells (addressable_pair (length xs) slab.count slab.size order dest src) xs
    (added xs (start slab order dest) (symbol slab order src xs)) (start slab order dest) slab.size

abbrev pub SymbolScaled : List ℕ → SymbolSlab → List ℕ → ℕ → ℕ → Result Bool Refusal → List ℕ → Type 0
SymbolScaled xs slab order dest c =
    Tells (addressable (length xs) slab.count slab.size order dest) xs
    (scaled c (symbol slab order dest xs)) (start slab order dest) slab.size

abbrev pub SymbolsFused : List ℕ → SymbolSlab → List ℕ → ℕ → ℕ → ℕ → Result Bool Refusal → List ℕ → Type 0
SymbolsFused xs slab order dest src c =
    Tells (addressable_pair (length xs) slab.count slab.size order dest src) xs
    (fused xs (start slab order dest) c (symbol slab order src xs)) (start slab order dest) slab.size
