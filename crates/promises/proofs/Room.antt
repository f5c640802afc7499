-- Room for L rows and L symbols, and for no more, is asked of an intake (document 02, E14): a begin with fewer places is refused by 8, and after an accepted
-- one no packet is, nor for how many came. What was contradictory once stays so until the next accepted begin: `contradiction-later`.
-- Assumes nothing.
use mathlib.Core.Path.{◌≡◌, refl, sym, ap, ◌∙◌}
use mathlib.Core.Logic.{◌≢◌}
use mathlib.Core.Bool.{Bool, true, false, not}
use mathlib.Core.List.{List}
use Prim.Native.Nat.{ℕ, ◌*◌, ◌≤◌, ◌<◌}
use native.Mathlib.Decide.{dec_lt}
use native.Mathlib.Omega.{arith}
use borrow.Author.Tests.{leb-true, le-ltb, lt-ltb, eq-eqb, ne_eqb}
use lib.Dec.{eqb, leb}
use lib.ListN.{length}
use Rattle.std.specs.Prelude.{Result, Ok, Err}
use Rattle.field.specs.declared.refusal.Refusal.{Refusal}
use Rattle.field.specs.Answer.{Outcome, given, refused, unless, outcome}
use Rattle.field.specs.declared.refusal.Refusal.TheVariants as Why
use Rattle.field.proofs.Answers.{given-not-refused, refused-only}
use Rattle.field.proofs.Answers.{outcome-only}
use Rattle.headers.specs.Row.{l_of}
use Rattle.headers.specs.declared.row.Row.{Row}
use Rattle.headers.proofs.Rules.{obeyed}
use Rattle.elimination.specs.Steps.{StoresRoom}
use Rattle.intake.specs.State.{Begun}
use Rattle.intake.specs.Night.{Stretch, stores_room, beginnable}
use Rattle.promises.specs.Nights.{Memory, Event, begin, packet, Happens, Beginning, Night, stretch, since_begin}
use Rattle.promises.proofs.Accepting.{packet-told}

-- ---- a begin

-- stores of a and d octets that lack room for L rows or L symbols
lacking-room : (l t a d : ℕ) (o : Outcome (Unit {0})) → (l * l ≤ a → l * t ≤ d → ⊥) → stores_room l t a d o ≡ refused 8
lacking-room l t a d o h = go (dec_lt a (l * l)) (dec_lt d (l * t))
  where
    go : Dec (a < l * l) → Dec (d < l * t) → stores_room l t a d o ≡ refused 8
    go (yes p) q = simp (lt-ltb a (l * l) p)
    go (no p) (yes q) = simp (le-ltb a (l * l) (omega arith), lt-ltb d (l * t) q)
    go (no p) (no q) = absurd (h (omega arith) (omega arith))

module _ (m n : Memory) (r : Row) (v : List ℕ) (k t : ℕ) where
  begin-told : (x : Result (Unit {0}) Refusal) → Happens (begin r v k t x) m n
      → outcome x ≡ beginnable r (length v) k t (length m.state) (length m.pivots) (length m.rows) (length m.values)
  begin-told (Ok _) h = sym h.0.0
  begin-told (Err why) h = sym h.0.0

  -- where all else is as it must be, room alone decides
  room-decides : (x : Result (Unit {0}) Refusal) → Beginning r v k t m → Happens (begin r v k t x) m n
      → outcome x ≡ stores_room (l_of r) t (length m.rows) (length m.values) (given tt)
  room-decides x f h = begin-told x h ∙ simp (
    obeyed f.rules,
    eq-eqb (length v) 1024 f.tables,
    le-ltb k 1 f.k-low,
    le-ltb r.kp k f.k-high,
    ne_eqb t 0 (omega (arith, f.t-low)),
    le-ltb (length m.state) 1037 f.state,
    le-ltb (length m.pivots) (l_of r) f.pivots,
  )

  -- with L places it is accepted
  pub begin-accepted : (x : Result (Unit {0}) Refusal) → Beginning r v k t m → StoresRoom (l_of r) (l_of r) t m.rows m.values
      → Happens (begin r v k t x) m n → x ≡ Ok tt
  begin-accepted x f room h = outcome-only x (Ok tt) (room-decides x f h ∙ simp (
    le-ltb (length m.rows) (l_of r * l_of r) room.rows,
    le-ltb (length m.values) (l_of r * t) room.symbols,
  ))

  -- and with fewer refused by 8
  pub begin-short : (x : Result (Unit {0}) Refusal) → Beginning r v k t m → ¬ StoresRoom (l_of r) (l_of r) t m.rows m.values → Happens (begin r v k t x) m n
      → x ≡ Err Why.WrongLength
  begin-short x f lacks h = outcome-only x (Err Why.WrongLength) (room-decides x f h
      ∙ lacking-room (l_of r) t (length m.rows) (length m.values) (given tt) (λ a d. lacks (record { rows = a; symbols = d })))

-- ---- a packet

abbrev by_packet : Bool → Bool → Outcome (Unit {0})
by_packet large other = unless large 9 (unless other 10 (given tt))

not_eight : (b c : Bool) → by_packet b c ≢ refused 8
not_eight true c e = let q : ◌≡◌ {A = ℕ} 9 8 = refused-only 9 8 e in omega arith
not_eight false true e = let q : ◌≡◌ {A = ℕ} 10 8 = refused-only 10 8 e in omega arith
not_eight false false e = given-not-refused tt 8 e

nine : (b c : Bool) → by_packet b c ≡ refused 9 → b ≡ true
nine true c e = refl
nine false true e = absurd (let q : ◌≡◌ {A = ℕ} 10 9 = refused-only 10 9 e in omega arith)
nine false false e = absurd (given-not-refused tt 9 e)

-- After every night with an accepted begin, whatever came since:
module _ (xs : List Event) (m n l : Memory) (z : Stretch) (u : ¬ Begun m.state m.pivots) (night : Night xs m n) (is : since_begin xs ≡ stretch z)
    (e : ℕ) (s : List ℕ) (x : Result (Unit {0}) Refusal) (c : Happens (packet e s x) n l) where
  -- no packet is refused for room
  pub never-full : x ≢ Err Why.WrongLength
  never-full q = not_eight (leb 16777216 e) (not (eqb (length s) z.t)) (sym (packet-told xs m n l z u night is e s x c) ∙ ap outcome q)

  -- nor by 9 for how many came: only for its ESI
  pub nine-for-esi : x ≡ Err Why.BadCount → 16777216 ≤ e
  nine-for-esi q = leb-true 16777216 e (nine (leb 16777216 e) (not (eqb (length s) z.t)) (sym (packet-told xs m n l z u night is e s x c) ∙ ap outcome q))
