-- Document 02, E1, over every night: the memory at its end holds the packets accepted since the last accepted begin, refusal 14 is given exactly where
-- there was none, a refused call has changed nothing, and answers are settled.
-- Assumes nothing.
use mathlib.Core.Path.{◌≡◌, refl, sym, ap, ◌∙◌, subst}
use mathlib.Core.Logic.Iff
use mathlib.Core.Logic.{◌↔◌}
use mathlib.Core.List.{List, [], ◌∷◌}
use Prim.Native.Nat.{ℕ}
use native.Mathlib.Omega.{arith}
use Rattle.std.specs.Prelude.{Result, Ok, Err}
use Rattle.field.specs.Answer.{outcome, code_of}
use Rattle.field.specs.declared.refusal.Refusal.{Refusal}
use Rattle.field.specs.declared.refusal.Refusal.TheVariants as Why
use Rattle.field.proofs.Answers.{given-not-refused, refused-only, code-only}
use Rattle.field.proofs.Answers.{outcome-only}
use Rattle.field.proofs.Writing.{written_once}
use Rattle.headers.specs.Row.{l_of}
use Rattle.headers.specs.declared.row.Row.{Row}
use Rattle.elimination.specs.declared.verdict.Verdict.{Verdict}
use Rattle.elimination.proofs.Once.{means-once}
use Rattle.intake.specs.State.{Begun}
use Rattle.intake.specs.Night.{Stretch, fresh, system_in, Unchanged, asked}
use Rattle.promises.specs.Nights.{Memory, Event, begin, packet, question, Happens, Night}
use Rattle.promises.specs.Nights.{Since, nothing, stretch, with_packet, after, after_all, since_begin, Keeps}
use Rattle.promises.proofs.Unbegun.{never-accepted, admitted-once, packet-exactly, question-exactly}

-- ---- a refused call changes nothing

same_memory : (m n : Memory) → n.state ≡ m.state → n.pivots ≡ m.pivots → n.rows ≡ m.rows → n.values ≡ m.values → n ≡ m
same_memory m n a b c d =
    ap (λ (x : List ℕ). record { state = x; pivots = n.pivots; rows = n.rows; values = n.values }) a
    ∙ ap (λ (x : List ℕ). record { state = m.state; pivots = x; rows = n.rows; values = n.values }) b
    ∙ ap (λ (x : List ℕ). record { state = m.state; pivots = m.pivots; rows = x; values = n.values }) c
    ∙ ap (λ (x : List ℕ). record { state = m.state; pivots = m.pivots; rows = m.rows; values = x }) d

unchanged : (m n : Memory) → Unchanged m.state m.pivots m.rows m.values n.state n.pivots n.rows n.values → n ≡ m
unchanged m n u = same_memory m n u.state u.pivots u.rows u.symbols

module _ (m n : Memory) (why : Refusal) where
  pub begin-refused : (r : Row) (v : List ℕ) (k t : ℕ) → Happens (begin r v k t (Err why)) m n → n ≡ m
  begin-refused r v k t h = same_memory m n h.0.1 h.1 h.2 h.3

  pub packet-refused : (e : ℕ) (s : List ℕ) → Happens (packet e s (Err why)) m n → n ≡ m
  packet-refused e s h = unchanged m n h.memory

  pub question-refused : (o o₁ : List ℕ) → Happens (question o o₁ (Err why)) m n → (n ≡ m) × (o₁ ≡ o)
  question-refused o o₁ h = (unchanged m n h.memory.0, h.memory.1)

-- ---- what is held

held-packet : (was : Since) (e : ℕ) (s : List ℕ) (m n : Memory) → Happens (packet e s (Ok tt)) m n → Keeps was m → Keeps (with_packet was e s) n
held-packet nothing e s m n h k = absurd (never-accepted _ _ _ k h.admitted)
held-packet (stretch z) e s m n h k = h.memory.1 z k

held-question : (was : Since) (o o₁ : List ℕ) (w : Verdict) (m n : Memory)
    → Happens (question o o₁ (Ok w)) m n → Keeps was m → Keeps was n
held-question nothing o o₁ w m n h k = absurd (never-accepted _ _ _ k h.admitted)
held-question (stretch z) o o₁ w m n h k = (h.memory.2 z k).0

-- one call more
held_after : (x : Event) (was : Since) (m n : Memory) → Happens x m n → Keeps was m → Keeps (after was x) n
held_after (begin r v k t (Ok _)) was m n h q =
    let b : Memory = record { state = n.state; pivots = m.pivots; rows = m.rows; values = m.values } in
    subst (Keeps (stretch (fresh r v k t))) (sym (same_memory b n refl h.1 h.2 h.3)) h.0.2
held_after (begin r v k t (Err why)) was m n h q = subst (Keeps was) (sym (begin-refused m n why r v k t h)) q
held_after (packet e s (Ok _)) was m n h q = held-packet was e s m n h q
held_after (packet e s (Err why)) was m n h q = subst (Keeps was) (sym (packet-refused m n why e s h)) q
held_after (question o o₁ (Ok w)) was m n h q = held-question was o o₁ w m n h q
held_after (question o o₁ (Err why)) was m n h q = subst (Keeps was) (sym (question-refused m n why o o₁ h).0) q

-- and a whole night
held_all : (xs : List Event) (was : Since) (m n : Memory) → Night xs m n → Keeps was m → Keeps (after_all was xs) n
held_all [] was m n h q = subst (Keeps was) (sym h) q
held_all (x ∷ xs) was m n h q = held_all xs (after was x) h.0 n h.2 (held_after x was m h.0 h.1 q)

-- Every night that begins with a memory in which nothing is begun ends with one that holds the packets accepted since the last accepted begin.
pub night-holds : (xs : List Event) (m n : Memory) → ¬ Begun m.state m.pivots → Night xs m n → Keeps (since_begin xs) n
night-holds xs m n u h = held_all xs nothing m n h u

-- ---- refusal 14

pub stretch-not-nothing : {z : Stretch} → stretch z ≡ nothing → ⊥
stretch-not-nothing e = let z : ◌≡◌ {A = ℕ} 0 1 = cc in omega arith

keeps-unbegun : (was : Since) (m : Memory) → Keeps was m → (¬ Begun m.state m.pivots) ↔ (was ≡ nothing)
keeps-unbegun nothing m k = (λ _. refl, λ _. k)
keeps-unbegun (stretch z) m k = (λ u. absurd (u k.begun), λ e. absurd (stretch-not-nothing e))

-- A packet or a question after a night is refused by 14 exactly where no begin of the night was accepted, whatever else would refuse it.
module _ (xs : List Event) (m n l : Memory) (u : ¬ Begun m.state m.pivots) (night : Night xs m n) where
  unaccepted : (¬ Begun n.state n.pivots) ↔ (since_begin xs ≡ nothing)
  unaccepted = keeps-unbegun (since_begin xs) n (night-holds xs m n u night)

  pub packet-unbegun : (e : ℕ) (s : List ℕ) (x : Result (Unit {0}) Refusal) → Happens (packet e s x) n l
      → (x ≡ Err Why.NotBegun) ↔ (since_begin xs ≡ nothing)
  packet-unbegun e s x h = Iff.trans (packet-exactly n l e s x h) unaccepted

  pub question-unbegun : (o o₁ : List ℕ) (x : Result Verdict Refusal) → Happens (question o o₁ x) n l
      → (x ≡ Err Why.NotBegun) ↔ (since_begin xs ≡ nothing)
  question-unbegun o o₁ x h = Iff.trans (question-exactly n l o o₁ x h) unaccepted

-- ---- answers are settled

-- that of a begin, with all memory: it is an equation
pub begin-once : (m n l : Memory) (r : Row) (v : List ℕ) (k t : ℕ) (x y : Result (Unit {0}) Refusal) → Happens (begin r v k t x) m n
    → Happens (begin r v k t y) m l
    → (x ≡ y) × (n ≡ l)
begin-once m n l r v k t (Ok _) (Ok _) f g =
    (refl, same_memory l n (written_once f.0.1 g.0.1) (f.1 ∙ sym g.1) (f.2 ∙ sym g.2) (f.3 ∙ sym g.3))
begin-once m n l r v k t (Ok _) (Err w) f g = absurd (given-not-refused tt (code_of w) (sym f.0.0 ∙ g.0.0))
begin-once m n l r v k t (Err w) (Ok _) f g = absurd (given-not-refused tt (code_of w) (sym g.0.0 ∙ f.0.0))
begin-once m n l r v k t (Err w) (Err u) f g = (
  ap Err (code-only w u (refused-only (code_of w) (code_of u) (sym f.0.0 ∙ g.0.0))),
  begin-refused m n w r v k t f ∙ sym (begin-refused m l u r v k t g),
)

-- that of a packet by the memory, whatever it holds
pub packet-once : (m n l : Memory) (e : ℕ) (s : List ℕ) (x y : Result (Unit {0}) Refusal) → Happens (packet e s x) m n → Happens (packet e s y) m l → x ≡ y
packet-once m n l e s x y f g = outcome-only x y (admitted-once _ _ _ (outcome x) (outcome y) f.admitted g.admitted)

-- Two questions on one memory and one out store are answered alike and leave the same out store, where a stretch is held, and where nothing is begun (by
-- 14, as `question-exactly` says).
module _ (m n l : Memory) (o o₁ o₂ : List ℕ) where
  once : (was : Since) (x y : Result Verdict Refusal) → asked x ≡ asked y → Keeps was m → Happens (question o o₁ x) m n → Happens (question o o₂ y) m l
      → (x ≡ y) × (o₁ ≡ o₂)
  once nothing (Ok w) (Ok v) e k f g = absurd (never-accepted _ _ _ k f.admitted)
  once (stretch z) (Ok w) (Ok v) e k f g =
      let q = means-once (l_of z.row) z.t (system_in z) o o₁ o₂ w v (f.memory.2 z k).1 (g.memory.2 z k).1 in
      (ap Ok q.0, q.1)
  once was (Ok w) (Err v) e k f g = absurd (given-not-refused tt (code_of v) e)
  once was (Err w) (Ok v) e k f g = absurd (given-not-refused tt (code_of w) (sym e))
  once was (Err w) (Err v) e k f g =
      (ap Err (code-only w v (refused-only (code_of w) (code_of v) e)), f.memory.1 ∙ sym g.memory.1)

  pub question-once : (was : Since) (x y : Result Verdict Refusal) → Keeps was m → Happens (question o o₁ x) m n → Happens (question o o₂ y) m l
      → (x ≡ y) × (o₁ ≡ o₂)
  question-once was x y k f g = once was x y (admitted-once _ _ _ (asked x) (asked y) f.admitted g.admitted) k f g
