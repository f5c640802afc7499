-- Document 02, E1 and E14, in the words of a caller: a night is begins, packets and questions, one after the other, each handed what the last one left.
-- Assumes nothing.
use Rattle.std.specs.Prelude.{◌≡◌, List, [], ◌∷◌, ◌++◌, ℕ, ◌*◌, ◌≤◌, ◌<◌, length, Result, Ok, Err}
use Rattle.field.specs.declared.refusal.Refusal.{Refusal}
use Rattle.headers.specs.Row.{Obeys, l_of}
use Rattle.headers.specs.declared.row.Row.{Row}
use Rattle.elimination.specs.Steps.{StoresRoom}
use Rattle.elimination.specs.declared.verdict.Verdict.{Verdict}
use Rattle.elimination.specs.declared.verdict.Verdict.TheVariants.{Solved}
use Rattle.solver.specs.System.{equations}
use Rattle.intake.specs.State.{Begun}
use Rattle.intake.specs.Night.{Stretch, fresh, arrived, Holding, Begins, Takes, Asks}
use Rattle.promises.specs.Calls.{Call, Judged, set_in}

-- ---- the calls of a night

-- what is lent to an intake
pub record Memory : Type 0 where
  pub state : List ℕ
  pub pivots : List ℕ
  pub rows : List ℕ
  pub values : List ℕ

-- a call with all that it was handed but the memory, and with its answer; of a question the out store before and after, too
pub data Event : Type 0 where
  begin : Row → List ℕ → (k t : ℕ) → Result (Unit {0}) Refusal → Event
  packet : (esi : ℕ) → (symbol : List ℕ) → Result (Unit {0}) Refusal → Event
  question : (out out₁ : List ℕ) → Result Verdict Refusal → Event

-- its contract, from the memory before to the memory after; a begin is lent pivots and stores only to measure them
abbrev pub Happens : Event → Memory → Memory → Type 0
Happens (begin r v k t x) m n =
    Begins r v k t m.state m.pivots m.rows m.values n.state x × (n.pivots ≡ m.pivots) × (n.rows ≡ m.rows) × (n.values ≡ m.values)
Happens (packet e s x) m n = Takes e s m.state m.pivots m.rows m.values n.state n.pivots n.rows n.values x
Happens (question o o₁ x) m n = Asks m.state m.pivots m.rows m.values o n.state n.pivots n.rows n.values o₁ x

-- all that a begin asks besides room in the two stores
pub record Beginning (r : Row) (v : List ℕ) (k t : ℕ) (m : Memory) : Type 0 where
  pub rules : Obeys r
  pub tables : length v ≡ 1024
  pub k-low : 1 ≤ k
  pub k-high : k ≤ r.kp
  pub t-low : 0 < t
  pub state : 1037 ≤ length m.state
  pub pivots : l_of r ≤ length m.pivots

-- one call after the other
abbrev pub Night : List Event → Memory → Memory → Type 0
Night [] m n = n ≡ m
Night (x ∷ xs) m n = (l : Memory) × Happens x m l × Night xs l n

-- ---- the packets accepted since the last accepted begin

-- no begin was accepted yet, or this came since the last one
pub data Since : Type 0 where
  nothing : Since
  stretch : Stretch → Since

-- with a packet that was accepted; where no begin was, none is (`packet-unbegun`)
abbrev pub with_packet : Since → ℕ → List ℕ → Since
with_packet nothing e s = nothing
with_packet (stretch z) e s = stretch (arrived z e s)

-- an accepted begin forgets all, an accepted packet comes behind the others, and nothing else counts
abbrev pub after : Since → Event → Since
after was (begin r v k t (Ok _)) = stretch (fresh r v k t)
after was (begin r v k t (Err why)) = was
after was (packet e s (Ok _)) = with_packet was e s
after was (packet e s (Err why)) = was
after was (question o o₁ x) = was

abbrev pub after_all : Since → List Event → Since
after_all was [] = was
after_all was (x ∷ xs) = after_all (after was x) xs

-- so it is a function of the calls and their answers alone
abbrev pub since_begin : List Event → Since
since_begin xs = after_all nothing xs

-- ---- what the memory says of it

-- nothing is begun in it, or the stretch is held
abbrev pub Keeps : Since → Memory → Type 0
Keeps nothing m = ¬ Begun m.state m.pivots
Keeps (stretch z) m = Holding z m.state m.pivots m.rows m.values

-- a question after a night that began with a memory in which nothing was begun: the out store o before and o₁ after, and the answer
pub record Question (xs : List Event) (o o₁ : List ℕ) (answer : Result Verdict Refusal) : Type 0 where
  pub lent : Memory
  pub left : Memory
  pub last : Memory
  pub unbegun : ¬ Begun lent.state lent.pivots
  pub night : Night xs lent left
  pub call : Happens (question o o₁ answer) left last

-- ---- beside the solver

-- an answer on the packets of a stretch by the solver's definition, whatever their number
abbrev pub JudgedOn : Stretch → (o o₁ : List ℕ) → Verdict → Type 0
JudgedOn z o o₁ w = Judged z.row z.tables z.k z.t z.esis z.symbols o o₁ w

-- a call of `solve` on them, which takes 65,535 at most
abbrev pub CallOn : Stretch → (o o₁ : List ℕ) → Result Verdict Refusal → Type 0
CallOn z o o₁ x = Call z.row z.tables z.k z.t z.esis z.symbols o o₁ x

-- and stores that are long enough for it: M·L, M·T and L·T octets
pub record RoomFor (z : Stretch) (a d o : List ℕ) : Type 0 where
  pub stores : StoresRoom (equations z.row z.k (length z.esis)) (l_of z.row) z.t a d
  pub out : l_of z.row * z.t ≤ length o

-- two answers are one: the verdict with its shortfall, the set, and the whole out store if it was the same before
pub record SameAnswer (r : Row) (t : ℕ) (o o₁ p p₁ : List ℕ) (w u : Verdict) : Type 0 where
  pub verdict : w ≡ u
  pub set : w ≡ Solved → set_in r t o₁ ≡ set_in r t p₁
  pub store : o ≡ p → o₁ ≡ p₁

-- ---- further into a stretch

-- none of these is an accepted begin
abbrev pub NoBegin : List Event → Type 0
NoBegin [] = Unit {0}
NoBegin (begin r v k t (Ok _) ∷ xs) = ⊥
NoBegin (begin r v k t (Err why) ∷ xs) = NoBegin xs
NoBegin (packet e s x ∷ xs) = NoBegin xs
NoBegin (question o o₁ x ∷ xs) = NoBegin xs

-- the ESIs of the packets that were accepted, in their order: a refused one does not count
abbrev pub accepted_esis : List Event → List ℕ
accepted_esis [] = []
accepted_esis (begin r v k t x ∷ xs) = accepted_esis xs
accepted_esis (packet e s (Ok _) ∷ xs) = e ∷ accepted_esis xs
accepted_esis (packet e s (Err why) ∷ xs) = accepted_esis xs
accepted_esis (question o o₁ x ∷ xs) = accepted_esis xs

-- and their symbols
abbrev pub accepted_symbols : List Event → List ℕ
accepted_symbols [] = []
accepted_symbols (begin r v k t x ∷ xs) = accepted_symbols xs
accepted_symbols (packet e s (Ok _) ∷ xs) = s ++ accepted_symbols xs
accepted_symbols (packet e s (Err why) ∷ xs) = accepted_symbols xs
accepted_symbols (question o o₁ x ∷ xs) = accepted_symbols xs

-- how many they are: document 02, E9, counts by this
abbrev pub accepted_count : List Event → ℕ
accepted_count xs = length (accepted_esis xs)

-- a stretch that began as z did, with these packets
abbrev pub with_packets : Stretch → (es xs : List ℕ) → Stretch
with_packets z es xs = record { row = z.row; tables = z.tables; k = z.k; t = z.t; esis = es; symbols = xs }

-- of which those of z are the first ones
abbrev pub extended : Stretch → (es xs : List ℕ) → Stretch
extended z es xs = with_packets z (z.esis ++ es) (z.symbols ++ xs)

-- and those of these calls that were accepted come behind them
abbrev pub with_accepted : Stretch → List Event → Stretch
with_accepted z xs = extended z (accepted_esis xs) (accepted_symbols xs)
