-- The theorem of E1, with the solver's limit on n lifted (E14): what an intake answers, and the bytes, are those of the solver's definition on the packets
-- accepted since the last accepted begin, whatever their number; so they are those of `solve` where it takes as many. By `question-judged` every theorem
-- about answers by the definition holds of questions.
-- Assumes nothing.
use mathlib.Core.Path.{◌≡◌, refl, sym, ap, ap₂, ◌∙◌, subst}
use mathlib.Core.List.{List}
use Prim.Native.Nat.{ℕ, ◌*◌, ◌≤◌}
use native.Mathlib.Omega.{arith}
use borrow.Author.Tests.{ltb-false}
use lib.Dec.{ltb}
use lib.ListN.{length, drop, length-drop}
use lib.Seq.{length-take-le}
use Rattle.std.specs.Prelude.{Ok, Err}
use Rattle.field.specs.Answer.{given, code_of}
use Rattle.field.specs.declared.refusal.Refusal.{Refusal}
use Rattle.field.proofs.Answers.{given-not-refused}
use Rattle.field.proofs.Refusals.{passed}
use Rattle.headers.specs.Row.{Obeys, l_of}
use Rattle.headers.specs.declared.row.Row.{Row}
use Rattle.elimination.specs.declared.verdict.Verdict.{Verdict}
use Rattle.solver.specs.System.{Solves}
use Rattle.intake.specs.State.{Begun, t_in, l_in}
use Rattle.intake.specs.Night.{Stretch, Holding, askable}
use Rattle.promises.specs.Calls.{Receivable}
use Rattle.promises.specs.Nights.{Memory, Event, question, Happens, Night, Since, nothing, stretch, since_begin, Keeps}
use Rattle.promises.specs.Nights.{Question, JudgedOn, CallOn, RoomFor, SameAnswer}
use Rattle.promises.proofs.Exactly.{call-judged}
use Rattle.promises.proofs.Lifted.{few-admitted, judged-call, judged-once}
use Rattle.promises.proofs.Unbegun.{begun-given, never-accepted}
use Rattle.promises.proofs.Nights.{night-holds}

-- ---- what is held, the definition speaks of

module _ {z : Stretch} {st ps a d : List ℕ} (h : Holding z st ps a d) where
  held-receivable : Receivable z.row z.tables z.k z.t z.esis z.symbols
  held-receivable =
      let n = h.named in
      let c = h.begun.numbers.counts in
      record {
        rules = subst Obeys n.row h.begun.numbers.rules;
        tables = ap length (sym n.tables) ∙ length-take-le 1024 (drop 13 st) (omega (arith, length-drop 13 st, h.begun.numbers.size));
        k-low = omega (arith, n.k, c.k-low);
        k-high = omega (arith, n.k, c.k-high, ap (λ (r : Row). r.kp) n.row);
        ids = h.sent.ids;
        t-low = omega (arith, n.t, c.t-low);
        all = h.sent.all;
      }

-- ---- a question that is answered

-- the out store of a question that is answered has room for the set
out-room : (z : Stretch) (m n : Memory) (o o₁ : List ℕ) (w : Verdict) → Keeps (stretch z) m → Happens (question o o₁ (Ok w)) m n
    → l_of z.row * z.t ≤ length o
out-room z m n o o₁ w h q =
    let st : List ℕ = m.state in
    let e : askable st (length m.rows) (length m.values) (length o) ≡ given tt = sym (begun-given _ _ _ (given tt) q.admitted h.begun) in
    let p1 = passed (ltb (length m.rows) (l_in st * l_in st)) 8 _ tt e in
    let p2 = passed (ltb (length m.values) (l_in st * t_in st)) 8 _ tt p1.1 in
    let p3 = passed (ltb (length o) (l_in st * t_in st)) 8 _ tt p2.1 in
    subst (λ (x : ℕ). x ≤ length o) (ap₂ (λ (r : Row) (t : ℕ). l_of r * t) h.named.row h.named.t) (ltb-false (length o) (l_in st * t_in st) p3.0)

held-judged : (z : Stretch) (m n : Memory) (o o₁ : List ℕ) (w : Verdict) → Keeps (stretch z) m → Happens (question o o₁ (Ok w)) m n → JudgedOn z o o₁ w
held-judged z m n o o₁ w h q = record { receivable = held-receivable h; room_out = out-room z m n o o₁ w h q; means = (q.memory.2 z h).1 }

-- the memory that a night has left, by its stretch
pub night-held : (xs : List Event) (m n : Memory) (z : Stretch) → ¬ Begun m.state m.pivots → Night xs m n
    → since_begin xs ≡ stretch z → Keeps (stretch z) n
night-held xs m n z u h e = subst (λ (s : Since). Keeps s n) e (night-holds xs m n u h)

-- After every night a question that is answered is answered by the definition, on the packets accepted since the last accepted begin, of which there was one.
pub question-judged : {xs : List Event} {o o₁ : List ℕ} {w : Verdict} → Question xs o o₁ (Ok w)
    → (z : Stretch) × (since_begin xs ≡ stretch z) × JudgedOn z o o₁ w
question-judged {xs} {o} {o₁} {w} q = go (since_begin xs) refl (night-holds xs q.lent q.left q.unbegun q.night)
  where
    go : (s : Since) → since_begin xs ≡ s → Keeps s q.left → (z : Stretch) × (since_begin xs ≡ stretch z) × JudgedOn z o o₁ w
    go nothing e k = absurd (never-accepted _ _ _ k q.call.admitted)
    go (stretch z) e k = (z, e, held-judged z q.left q.last o o₁ w k q.call)

-- so it is a call of `solve` on them, where they are at most 65,535
pub question-call : {xs : List Event} {o o₁ : List ℕ} {w : Verdict} → Question xs o o₁ (Ok w)
    → (z : Stretch) × (since_begin xs ≡ stretch z) × (length z.esis ≤ 65535 → CallOn z o o₁ (Ok w))
question-call q = let j = question-judged q in (j.0, j.1, judged-call j.2)

-- ---- the theorem of E1

-- After every night, whatever its begins, packets and questions were, a question is answered as the solver's definition has it, its limit on n lifted, on the
-- packets accepted since the last accepted begin: the verdict, the shortfall, the set, and the whole out store where it was the same before.
pub intake-answers : {xs : List Event} {o o₁ : List ℕ} {w : Verdict} → Question xs o o₁ (Ok w)
    → (z : Stretch) × (since_begin xs ≡ stretch z) × ((p p₁ : List ℕ) (u : Verdict) → JudgedOn z p p₁ u → SameAnswer z.row z.t o o₁ p p₁ w u)
intake-answers q = let j = question-judged q in (j.0, j.1, λ p p₁ u d. judged-once j.2 d)

-- and so as `solve` answers on them, which takes 65,535 at most (`call-few`)
pub intake-equals-solver : {xs : List Event} {o o₁ : List ℕ} {w : Verdict} → Question xs o o₁ (Ok w)
    → (z : Stretch) × (since_begin xs ≡ stretch z) × ((p p₁ : List ℕ) (u : Verdict) → CallOn z p p₁ (Ok u) → SameAnswer z.row z.t o o₁ p p₁ w u)
intake-equals-solver q = let c = intake-answers q in (c.0, c.1, λ p p₁ u d. c.2 p p₁ u (call-judged d))

-- and with stores that are long enough `solve` does answer, if they are at most so many: it refuses none of these packets
pub solve-not-refused : (xs : List Event) (m n : Memory) (z : Stretch) → ¬ Begun m.state m.pivots → Night xs m n → since_begin xs ≡ stretch z
    → length z.esis ≤ 65535 → (a d o a₁ d₁ o₁ : List ℕ) (why : Refusal) → RoomFor z a d o
    → ¬ Solves z.row z.tables z.k z.t z.esis z.symbols a d o a₁ d₁ o₁ (Err why)
solve-not-refused xs m n z u h e few a d o a₁ d₁ o₁ why room s =
    let fine = few-admitted z.row z.tables z.k z.t z.esis z.symbols (held-receivable (night-held xs m n z u h e)) few a d o
    room.stores.rows room.stores.symbols room.out in
    given-not-refused tt (code_of why) (sym fine ∙ s.0)
