-- Refusal 14 of one call of the intake: a packet or a question is refused by it exactly where nothing is begun, before all others. A memory of zeros is
-- one in which nothing is begun.
-- Assumes nothing.
use mathlib.Core.Path.{◌≡◌, sym, ap, ◌∙◌}
use mathlib.Core.Logic.{◌≢◌, ◌↔◌}
use mathlib.Core.Bool.{Bool, true, false, not}
use mathlib.Core.List.{List}
use Prim.Native.Nat.{ℕ, ◌*◌, ◌<◌}
use native.Mathlib.Omega.{arith}
use lib.Dec.{eqb, leb, ltb}
use lib.ListN.{length, get_or}
use Rattle.std.specs.Prelude.{Result, Ok, Err}
use Rattle.field.specs.declared.refusal.Refusal.{Refusal}
use Rattle.field.specs.Answer.{Outcome, given, refused, unless, outcome, code_of}
use Rattle.field.specs.declared.refusal.Refusal.TheVariants as Why
use Rattle.field.proofs.Answers.{given-not-refused, refused-only, code-only}
use Rattle.field.proofs.Answers.{outcome-only}
use Rattle.headers.specs.Told.{Told}
use Rattle.elimination.specs.declared.verdict.Verdict.{Verdict}
use Rattle.intake.specs.State.{Begun, t_in, l_in}
use Rattle.intake.specs.Night.{stores_room, takable, askable, asked, Admitted}
use Rattle.promises.specs.Nights.{Memory, packet, question, Happens}

-- ---- what is not begun

-- a state whose first word is 0: its row has K' = 0
pub zero-unbegun : (st ps : List ℕ) → get_or st 0 0 ≡ 0 → ¬ Begun st ps
zero-unbegun st ps e b = let h = b.numbers.rules.ranges.kp-low in omega arith

-- so words of 0, as many as there are
pub zeros-unbegun : (st ps : List ℕ) → ((i : ℕ) → get_or st i 0 ≡ 0) → ¬ Begun st ps
zeros-unbegun st ps e = zero-unbegun st ps (e 0)

-- and less than 1,037 words, whatever they are
pub short-unbegun : (st ps : List ℕ) → length st < 1037 → ¬ Begun st ps
short-unbegun st ps h b = omega (arith, b.numbers.size)

-- ---- 14 before all others

-- x is answered, where o are the refusals of an intake that was begun
module _ (st ps : List ℕ) (o x : Outcome (Unit {0})) (a : Admitted st ps o x) where
  unbegun-given : ¬ Begun st ps → x ≡ refused 14
  unbegun-given u = go a.since a.told a.answer
    where
      go : (b : Bool) → Told b (Begun st ps) → x ≡ unless (not b) 14 o → x ≡ refused 14
      go true t e = absurd (u t)
      go false t e = e

  pub begun-given : Begun st ps → x ≡ o
  begun-given u = go a.since a.told a.answer
    where
      go : (b : Bool) → Told b (Begun st ps) → x ≡ unless (not b) 14 o → x ≡ o
      go true t e = e
      go false t e = absurd (t u)

  -- 14 is given exactly where nothing was begun, if no other refusal is numbered so
  unbegun-exactly : o ≢ refused 14 → (x ≡ refused 14) ↔ (¬ Begun st ps)
  unbegun-exactly other = (λ e b. other (sym (begun-given b) ∙ e), unbegun-given)

-- where nothing is begun none is accepted
pub never-accepted : (st ps : List ℕ) (o : Outcome (Unit {0})) → ¬ Begun st ps → ¬ Admitted st ps o (given tt)
never-accepted st ps o u a = given-not-refused tt 14 (unbegun-given st ps o (given tt) a u)

-- and what is answered is settled
pub admitted-once : (st ps : List ℕ) (o x y : Outcome (Unit {0})) → Admitted st ps o x → Admitted st ps o y → x ≡ y
admitted-once st ps o x y a b = go b.since b.told b.answer
  where
    go : (c : Bool) → Told c (Begun st ps) → y ≡ unless (not c) 14 o → x ≡ y
    go true t e = begun-given st ps o x a t ∙ sym e
    go false t e = unbegun-given st ps o x a t ∙ sym e

-- none of the others is 14
lower : (b : Bool) (n : ℕ) (o : Outcome (Unit {0})) → n < 14 → o ≢ refused 14 → unless b n o ≢ refused 14
lower true n o h k e = let q : n ≡ 14 = refused-only n 14 e in omega arith
lower false n o h k e = k e

lower-stores : (l t a d : ℕ) (o : Outcome (Unit {0})) → o ≢ refused 14 → stores_room l t a d o ≢ refused 14
lower-stores l t a d o k = lower (ltb a (l * l)) 8 _ (omega arith) (lower (ltb d (l * t)) 8 o (omega arith) k)

lower-packet : (st : List ℕ) (e s a d : ℕ) → takable st e s a d ≢ refused 14
lower-packet st e s a d =
    lower (leb 16777216 e) 9 _ (omega arith) (lower (not (eqb s (t_in st))) 10 _ (omega arith)
    (lower-stores (l_in st) (t_in st) a d (given tt) (given-not-refused tt 14)))

lower-question : (st : List ℕ) (a d o : ℕ) → askable st a d o ≢ refused 14
lower-question st a d o =
    lower-stores (l_in st) (t_in st) a d _ (lower (ltb o (l_in st * t_in st)) 8 (given tt) (omega arith) (given-not-refused tt 14))

asked-unbegun : (x : Result Verdict Refusal) → (asked x ≡ refused 14) ↔ (x ≡ Err Why.NotBegun)
asked-unbegun (Ok w) = (λ e. absurd (given-not-refused tt 14 e), λ e. ap asked e)
asked-unbegun (Err why) = (λ e. ap Err (code-only why Why.NotBegun (refused-only (code_of why) 14 e)), λ e. ap asked e)

-- ---- of a packet, and of a question

module _ (m n : Memory) where
  pub packet-exactly : (e : ℕ) (s : List ℕ) (x : Result (Unit {0}) Refusal) → Happens (packet e s x) m n
      → (x ≡ Err Why.NotBegun) ↔ (¬ Begun m.state m.pivots)
  packet-exactly e s x h =
      let a = unbegun-exactly _ _ _ (outcome x) h.admitted (lower-packet m.state e (length s) (length m.rows) (length m.values)) in
      (λ q. a.0 (ap outcome q), λ u. outcome-only x (Err Why.NotBegun) (a.1 u))

  pub question-exactly : (o o₁ : List ℕ) (x : Result Verdict Refusal) → Happens (question o o₁ x) m n
      → (x ≡ Err Why.NotBegun) ↔ (¬ Begun m.state m.pivots)
  question-exactly o o₁ x h =
      let a = unbegun-exactly _ _ _ (asked x) h.admitted (lower-question m.state (length m.rows) (length m.values) (length o)) in
      let b = asked-unbegun x in
      (λ q. a.0 (b.1 q), λ u. b.0 (a.1 u))
