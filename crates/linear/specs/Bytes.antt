-- Demand 3 in octets: what a set of L symbols of T octets fits, the three answers, and the shortfall. A system is given in numbers, row by
-- row, as a document writes it or as two stores hold it.
-- Assumes nothing.
use Rattle.std.specs.Prelude.{◌≡◌, ◌≢◌, List, [], ◌∷◌, ℕ, zero, suc, ◌+◌, ◌*◌, ◌/◌, ◌%◌, ◌<◌, length, get_or}
use Rattle.field.specs.Octet.{times}
use Rattle.field.specs.Sum.{sum}
use Rattle.linear.specs.System.{System, Symbols, Shortfall}
use Rattle.linear.specs.Octets.{octets, Octet, oct, value}

-- every element is an octet
abbrev pub Bytes : List ℕ → Type 0
Bytes m = (i : ℕ) → get_or m i 0 < 256

-- entry c of row i of a matrix of width w that stands in a list, row after row
abbrev pub cell : ℕ → List ℕ → ℕ → ℕ → ℕ
cell w m i c = get_or m (i * w + c) 0

-- document 01: a set of L symbols of T octets, symbol c at c * T
pub record Block (L T : ℕ) (C : List ℕ) : Type 0 where
  pub size : length C ≡ L * T
  pub bytes : Bytes C

-- the M equations that two stores hold: the coefficients in a, row after row, and the symbols in d
abbrev pub stored_system : (M L T : ℕ) (a d : List ℕ) → System ℕ
stored_system M L T a d = record { count = M; coef = cell L a; byte = cell T d }

-- the symbols of S are of octets
pub record OctetSymbols (T : ℕ) (S : System ℕ) : Type 0 where
  pub below : (i : ℕ) → i < S.count → (t : ℕ) → t < T → S.byte i t < 256

-- S with its numbers as octets
abbrev pub in_octets : System ℕ → System Octet
in_octets S = record { count = S.count; coef = λ i c. oct (S.coef i c); byte = λ i t. oct (S.byte i t) }

-- the symbols of T octets that a list holds, as octets
abbrev pub symbols : (T : ℕ) → List ℕ → Symbols Octet
symbols T C c t = oct (cell T C c t)

-- f 0, f 1, .., f (n - 1)
unfoldable pub tabulate : ℕ → (ℕ → ℕ) → List ℕ
tabulate zero f = []
tabulate (suc n) f = f zero ∷ tabulate n (λ i. f (suc i))

-- the list that holds these symbols
unfoldable pub pack : (L T : ℕ) → Symbols Octet → List ℕ
pack L T C = tabulate (L * T) (λ x. value (C (x / T) (x % T)))

-- demand 3: the set C meets every constraint and yields every symbol that arrived
pub record FitsBytes (L T : ℕ) (S : System ℕ) (C : List ℕ) : Type 0 where
  pub meets : (i : ℕ) → i < S.count → (t : ℕ) → t < T → sum L (λ c. times (S.coef i c) (cell T C c t)) ≡ S.byte i t

module _ (L T : ℕ) (S : System ℕ) where
  -- demand 3, solved: a single set fits, and it is `out`
  pub record SolvedBytes (out : List ℕ) : Type 0 where
    pub block : Block L T out
    pub fits : FitsBytes L T S out
    pub only : (C : List ℕ) → Block L T C → FitsBytes L T S C → C ≡ out

  -- demand 3, contradiction: no set fits
  pub record ContradictionBytes : Type 0 where
    pub none : (C : List ℕ) → Block L T C → ¬ FitsBytes L T S C

  -- demand 3, open otherwise: sets fit that differ
  pub record OpenBytes : Type 0 where
    pub first : List ℕ
    pub second : List ℕ
    pub first_block : Block L T first
    pub second_block : Block L T second
    pub first_fits : FitsBytes L T S first
    pub second_fits : FitsBytes L T S second
    pub differ : first ≢ second

  -- demand 3, the shortfall: L less the most rows that are independent, of all ways to choose rows
  pub record ShortfallBytes (s : ℕ) : Type 0 where
    pub lacks : Shortfall octets L T (in_octets S) s

  -- the answer of a system, with the shortfall that goes with it
  pub data AnswerBytes : Type 0 where
    contradicted-bytes : ContradictionBytes → AnswerBytes
    settled-bytes : (out : List ℕ) → SolvedBytes out → ShortfallBytes 0 → AnswerBytes
    left-open-bytes : (s : ℕ) → OpenBytes → ShortfallBytes s → 0 < s → AnswerBytes
