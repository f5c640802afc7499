-- After an accepted begin any number of packets is accepted (document 02, E14), and a question with room for the set is answered. The stores have room as long
-- as they are those of the begin.
-- Assumes nothing.
use mathlib.Core.Path.{◌≡◌, refl, sym, ap₂, ◌∙◌, subst}
use mathlib.Core.Bool.{not}
use mathlib.Core.List.{List}
use Prim.Native.Nat.{ℕ, ◌*◌, ◌≤◌, ◌<◌}
use borrow.Author.Tests.{le-ltb, lt-leb, eq-eqb}
use lib.Dec.{eqb, leb}
use lib.ListN.{length}
use Rattle.std.specs.Prelude.{Result, Ok, Err}
use Rattle.field.specs.declared.refusal.Refusal.{Refusal}
use Rattle.field.specs.Answer.{Outcome, given, unless, outcome, code_of}
use Rattle.field.proofs.Answers.{given-not-refused}
use Rattle.field.proofs.Answers.{outcome-only}
use Rattle.headers.specs.Row.{l_of}
use Rattle.headers.specs.declared.row.Row.{Row}
use Rattle.elimination.specs.declared.verdict.Verdict.{Verdict}
use Rattle.intake.specs.State.{Begun, t_in, l_in}
use Rattle.intake.specs.Night.{Stretch, Holding, stores_room, takable, askable, asked}
use Rattle.promises.specs.Nights.{Memory, Event, packet, question, Happens, Night, stretch, since_begin}
use Rattle.promises.proofs.Unbegun.{begun-given}
use Rattle.promises.proofs.Intake.{night-held}

module _ {z : Stretch} {st ps a d : List ℕ} (h : Holding z st ps a d) where
  -- what is asked of a packet besides room, which there is
  takable-is : (e s : ℕ) → takable st e s (length a) (length d) ≡ unless (leb 16777216 e) 9 (unless (not (eqb s z.t)) 10 (given tt))
  takable-is e s =
      let room : stores_room (l_in st) (t_in st) (length a) (length d) (given tt) ≡ given tt = simp (
        le-ltb (length a) (l_in st * l_in st) h.room.rows,
        le-ltb (length d) (l_in st * t_in st) h.room.symbols,
      ) in
      ap₂ (λ (t : ℕ) (o : Outcome (Unit {0})). unless (leb 16777216 e) 9 (unless (not (eqb s t)) 10 o)) h.named.t room

  askable-is : (o : ℕ) → l_of z.row * z.t ≤ o → askable st (length a) (length d) o ≡ given tt
  askable-is o out =
      let q : l_in st * t_in st ≤ o = subst (λ (x : ℕ). x ≤ o) (sym (ap₂ (λ (r : Row) (t : ℕ). l_of r * t) h.named.row h.named.t)) out in
      simp (
        le-ltb (length a) (l_in st * l_in st) h.room.rows,
        le-ltb (length d) (l_in st * t_in st) h.room.symbols,
        le-ltb o (l_in st * t_in st) q,
      )

answered : (x : Result Verdict Refusal) → asked x ≡ given tt → (w : Verdict) × (x ≡ Ok w)
answered (Ok w) e = (w, refl)
answered (Err why) e = absurd (given-not-refused tt (code_of why) (sym e))

module _ (xs : List Event) (m n l : Memory) (z : Stretch) (u : ¬ Begun m.state m.pivots) (night : Night xs m n) (is : since_begin xs ≡ stretch z) where
  -- a packet is refused by 9 for its ESI, by 10 for the size of its symbol, and for nothing else: how many came before it is not asked
  pub packet-told : (e : ℕ) (s : List ℕ) (x : Result (Unit {0}) Refusal) → Happens (packet e s x) n l
      → outcome x ≡ unless (leb 16777216 e) 9 (unless (not (eqb (length s) z.t)) 10 (given tt))
  packet-told e s x c =
      let h = night-held xs m n z u night is in
      begun-given _ _ _ (outcome x) c.admitted h.begun ∙ takable-is h e (length s)

  -- so it is accepted: an ESI below 2^24, and a symbol of T octets
  pub packet-accepted : (e : ℕ) (s : List ℕ) (x : Result (Unit {0}) Refusal) → e < 16777216 → length s ≡ z.t → Happens (packet e s x) n l → x ≡ Ok tt
  packet-accepted e s x small size c =
      outcome-only x (Ok tt) (packet-told e s x c ∙ simp (lt-leb 16777216 e small, eq-eqb (length s) z.t size))

  -- a question is answered
  pub question-answered : (o o₁ : List ℕ) (x : Result Verdict Refusal) → l_of z.row * z.t ≤ length o → Happens (question o o₁ x) n l
      → (w : Verdict) × (x ≡ Ok w)
  question-answered o o₁ x out c =
      let h = night-held xs m n z u night is in
      answered x (begun-given _ _ _ (asked x) c.admitted h.begun ∙ askable-is h (length o) out)
