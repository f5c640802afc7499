-- Document 02, E1 and E14: what an intake holds, when each of its three calls is refused, and what each leaves. What came since the last accepted begin is a
-- stretch; the answers are those of the solver's system on it.
-- Assumes nothing.
use Rattle.std.specs.Prelude.{◌≡◌, Bool, true, false, not, List, [], ◌∷◌, ◌++◌, ℕ, ◌+◌, ◌*◌, ◌<◌, eqb, leb, ltb, length, get_or, Option, Result, Ok, Err}
use Rattle.field.specs.Answer.{Outcome, given, unless, before, refused, code_of, outcome, outcome_of}
use Rattle.field.specs.Runs.{Written}
use Rattle.field.specs.declared.refusal.Refusal.{Refusal}
use Rattle.headers.specs.Row.{verified, l_of}
use Rattle.headers.specs.Told.{Told}
use Rattle.headers.specs.declared.row.Row.{Row}
use Rattle.linear.specs.System.{System}
use Rattle.linear.specs.Bytes.{Bytes}
use Rattle.linear.specs.Rows.{OnlyBelow}
use Rattle.elimination.specs.Steps.{StoresRoom}
use Rattle.elimination.specs.Verdict.{Means}
use Rattle.elimination.specs.declared.verdict.Verdict.{Verdict}
use Rattle.solver.specs.System.{arrival_rows, system_of}
use Rattle.intake.specs.Taking.{Says, Placed}
use Rattle.intake.specs.State.{Begun, row_in, k_in, t_in, mark_in, tables_in, l_in, progress_in, words}

-- ---- what it holds

-- what began and what came since: row, tables, K, T, and the packets that were accepted, any number of them, in the order of their coming
pub record Stretch : Type 0 where
  pub row : Row
  pub tables : List ℕ
  pub k : ℕ
  pub t : ℕ
  pub esis : List ℕ
  pub symbols : List ℕ

-- nothing came yet
abbrev pub fresh : Row → List ℕ → (k t : ℕ) → Stretch
fresh r v k t = record { row = r; tables = v; k = k; t = t; esis = []; symbols = [] }

-- one more came: the ESI e, with the symbol s
abbrev pub arrived : Stretch → ℕ → List ℕ → Stretch
arrived z e s = record {
  row = z.row;
  tables = z.tables;
  k = z.k;
  t = z.t;
  esis = z.esis ++ (e ∷ []);
  symbols = z.symbols ++ s;
}

-- the solver's system on it
abbrev pub system_in : Stretch → System ℕ
system_in z = system_of z.row z.tables z.k z.t z.esis z.symbols

-- what was taken of it: the packets alone before the first question, then all
abbrev pub taken_of : Stretch → Bool → System ℕ
taken_of z true = arrival_rows z.tables z.row z.k z.t z.esis z.symbols
taken_of z false = system_in z

-- the packets of a stretch are such as are accepted
pub record Sent (z : Stretch) : Type 0 where
  pub all : length z.symbols ≡ length z.esis * z.t
  pub ids : (i : ℕ) → i < length z.esis → get_or z.esis i 0 < 16777216
  pub bytes : Bytes z.symbols

-- the words of a state are those of the stretch
pub record Named (z : Stretch) (st : List ℕ) : Type 0 where
  pub row : row_in st ≡ z.row
  pub tables : tables_in st ≡ z.tables
  pub k : k_in st ≡ z.k
  pub t : t_in st ≡ z.t

-- Document 02, E1: this state, these pivots and these stores hold what came since begin.
pub record Holding (z : Stretch) (st ps a d : List ℕ) : Type 0 where
  pub begun : Begun st ps
  pub named : Named z st
  pub sent : Sent z
  pub room : StoresRoom (l_in st) (l_in st) (t_in st) a d
  pub says : Says (l_in st) (t_in st) (taken_of z (eqb (mark_in st) 1)) ps a d (progress_in st)

-- ---- the refusals

-- stores of a and d octets for L rows and L symbols: 8
abbrev pub stores_room : (l t a d : ℕ) → Outcome (Unit {0}) → Outcome (Unit {0})
stores_room l t a d o = unless (ltb a (l * l)) 8 (unless (ltb d (l * t)) 8 o)

-- refusal 8 of a begin: the stores, then a state of `state` words, then `pivots` places
abbrev pub room_to_begin : Row → (t state pivots a d : ℕ) → Outcome (Unit {0})
room_to_begin r t state pivots a d = stores_room (l_of r) t a d (unless (ltb state 1037) 8 (unless (ltb pivots (l_of r)) 8 (given tt)))

-- begin, on numbers: 4, 5, 9, 10, 8. Tables of `tables` numbers, a state of `state` words, `pivots` places, stores of a and d octets
abbrev pub beginnable : Row → (tables k t state pivots a d : ℕ) → Outcome (Unit {0})
beginnable r tables k t state pivots a d =
    before (verified r) (unless (not (eqb tables 1024)) 5 (unless (ltb k 1) 9 (unless (ltb r.kp k) 9 (unless (eqb t 0) 10
    (room_to_begin r t state pivots a d)))))

-- a packet of an intake that was begun: 9, 10, 8. The ESI e, a symbol of s octets; how many came before it is not asked
abbrev pub takable : List ℕ → (e s a d : ℕ) → Outcome (Unit {0})
takable st e s a d = unless (leb 16777216 e) 9 (unless (not (eqb s (t_in st))) 10 (stores_room (l_in st) (t_in st) a d (given tt)))

-- a question: 8. An out store of o octets
abbrev pub askable : List ℕ → (a d o : ℕ) → Outcome (Unit {0})
askable st a d o = stores_room (l_in st) (t_in st) a d (unless (ltb o (l_in st * t_in st)) 8 (given tt))

-- 14 before all others: x is what is answered, where o are the refusals of an intake that was begun
pub record Admitted (st ps : List ℕ) (o x : Outcome (Unit {0})) : Type 0 where
  pub since : Bool
  pub told : Told since (Begun st ps)
  pub answer : x ≡ unless (not since) 14 o

-- ---- the calls

-- begin forgets all, and copies row and tables
abbrev pub Begins : Row → List ℕ → (k t : ℕ) (st ps a d st₁ : List ℕ) → Result (Unit {0}) Refusal → Type 0
Begins r v k t st ps a d st₁ (Ok _) =
    (beginnable r (length v) k t (length st) (length ps) (length a) (length d) ≡ given tt)
    × Written (λ i. get_or (words r k t v) i 0) st st₁ 0 1037
    × Holding (fresh r v k t) st₁ ps a d
Begins r v k t st ps a d st₁ (Err why) =
    (beginnable r (length v) k t (length st) (length ps) (length a) (length d) ≡ refused (code_of why)) × (st₁ ≡ st)

-- what a call may change, of a state that was begun: two words, L pivots, and L places of each store
pub record Within (st ps a d st₁ ps₁ a₁ d₁ : List ℕ) : Type 0 where
  pub state : Written (λ i. get_or st₁ (11 + i) 0) st st₁ 11 2
  pub pivots : OnlyBelow (l_in st) ps ps₁
  pub rows : OnlyBelow (l_in st * l_in st) a a₁
  pub symbols : OnlyBelow (l_in st * t_in st) d d₁

-- and a refused one nothing
pub record Unchanged (st ps a d st₁ ps₁ a₁ d₁ : List ℕ) : Type 0 where
  pub state : st₁ ≡ st
  pub pivots : ps₁ ≡ ps
  pub rows : a₁ ≡ a
  pub symbols : d₁ ≡ d

-- a packet that nothing refuses
pub record Packet (e : ℕ) (s st ps a d : List ℕ) : Type 0 where
  pub begun : Begun st ps
  pub esi : e < 16777216
  pub size : length s ≡ t_in st
  pub room : StoresRoom (l_in st) (l_in st) (t_in st) a d

-- what was held is held with one packet more
abbrev pub HoldsMore : (e : ℕ) (s st ps a d st₁ ps₁ a₁ d₁ : List ℕ) → Type 0
HoldsMore e s st ps a d st₁ ps₁ a₁ d₁ = (z : Stretch) → Holding z st ps a d → Holding (arrived z e s) st₁ ps₁ a₁ d₁

abbrev pub TakesBy : (e : ℕ) (s st ps a d st₁ ps₁ a₁ d₁ : List ℕ) → Result (Unit {0}) Refusal → Type 0
TakesBy e s st ps a d st₁ ps₁ a₁ d₁ (Ok _) = Within st ps a d st₁ ps₁ a₁ d₁ × HoldsMore e s st ps a d st₁ ps₁ a₁ d₁
TakesBy e s st ps a d st₁ ps₁ a₁ d₁ (Err why) = Unchanged st ps a d st₁ ps₁ a₁ d₁

pub record Takes (e : ℕ) (s st ps a d st₁ ps₁ a₁ d₁ : List ℕ) (x : Result (Unit {0}) Refusal) : Type 0 where
  pub admitted : Admitted st ps (takable st e (length s) (length a) (length d)) (outcome x)
  pub memory : TakesBy e s st ps a d st₁ ps₁ a₁ d₁ x

-- what was held is held as before, and what is answered is what it comes to
abbrev pub AnswersHeld : (st ps a d o st₁ ps₁ a₁ d₁ o₁ : List ℕ) → Verdict → Type 0
AnswersHeld st ps a d o st₁ ps₁ a₁ d₁ o₁ v =
    (z : Stretch) → Holding z st ps a d → Holding z st₁ ps₁ a₁ d₁ × Means (l_of z.row) z.t (system_in z) o o₁ v

-- the rows that row, tables and K fix are taken too, whatever was before: the elimination stands at q
pub record Completes (st ps a d st₁ ps₁ a₁ d₁ : List ℕ) (q : Option ℕ) : Type 0 where
  pub within : Within st ps a d st₁ ps₁ a₁ d₁
  pub placed : Placed (l_in st) ps₁ q
  pub holds : (z : Stretch) → Holding z st ps a d → Holding z st₁ ps₁ a₁ d₁ × Says (l_in st) (t_in st) (system_in z) ps₁ a₁ d₁ q

-- whether a question was answered
abbrev pub asked : Result Verdict Refusal → Outcome (Unit {0})
asked = outcome_of (λ _. tt)

abbrev pub AsksBy : (st ps a d o st₁ ps₁ a₁ d₁ o₁ : List ℕ) → Result Verdict Refusal → Type 0
AsksBy st ps a d o st₁ ps₁ a₁ d₁ o₁ (Ok v) =
    Within st ps a d st₁ ps₁ a₁ d₁ × OnlyBelow (l_in st * t_in st) o o₁ × AnswersHeld st ps a d o st₁ ps₁ a₁ d₁ o₁ v
AsksBy st ps a d o st₁ ps₁ a₁ d₁ o₁ (Err why) = Unchanged st ps a d st₁ ps₁ a₁ d₁ × (o₁ ≡ o)

pub record Asks (st ps a d o st₁ ps₁ a₁ d₁ o₁ : List ℕ) (x : Result Verdict Refusal) : Type 0 where
  pub admitted : Admitted st ps (askable st (length a) (length d) (length o)) (asked x)
  pub memory : AsksBy st ps a d o st₁ ps₁ a₁ d₁ o₁ x
