-- The refusals of an intake, and the look that comes before them: what each test tells of a state's words, in the words of the definitions.
-- Assumes nothing.
use mathlib.Core.Path.{◌≡◌, refl, sym, ap, ◌∙◌, subst}
use mathlib.Core.Bool.{Bool, true, false}
use mathlib.Core.List.{List}
use Prim.Native.Nat.{ℕ, ◌+◌, ◌*◌, ◌≤◌, ◌<◌}
use native.Mathlib.Omega.{arith}
use lib.Dec.{ltb}
use lib.ListN.{length, get_or}
use Rattle.field.specs.Answer.{Outcome, given, unless, before, outcome}
use Rattle.std.specs.Prelude.{Result, Ok, Err}
use Rattle.field.specs.declared.refusal.Refusal.{Refusal}
use Rattle.field.proofs.Refusals.{stopped, went_on, told}
use Rattle.headers.specs.Row.{Obeys, verified, l_of}
use Rattle.headers.specs.Told.{Told}
use Rattle.headers.specs.declared.row.Row.{Row}
use Rattle.headers.proofs.Rules.{obeying, refused-disobeys}
use Rattle.linear.specs.Rows.{RowCopied}
use Rattle.std.specs.Prelude.{Option}
use Rattle.intake.specs.Taking.{Placed}
use Rattle.intake.specs.State.{Begun, Counts, row_in, k_in, t_in, mark_in, l_in, progress_in}
use Rattle.intake.specs.Night.{stores_room}
use Rattle.intake.proofs.Steps.{copied}

-- ---- the row that was read

-- the check took it
pub row_kept : {r q : Row} (x : Result (Unit {0}) Refusal) → r ≡ q → outcome x ≡ verified r → x ≡ Ok tt → Obeys q
row_kept x e v d = subst Obeys e (obeying (told x tt v d))

-- or it did not
pub row-broken : {r q : Row} {why : Refusal} (x : Result (Unit {0}) Refusal) → r ≡ q → outcome x ≡ verified r → x ≡ Err why → Obeys q → ⊥
row-broken x e v d o = refused-disobeys (sym v ∙ ap outcome d) (subst Obeys (sym e) o)

-- the L that it carries is its own
pub l-read : {r q : Row} → r ≡ q → Obeys q → r.l ≡ l_of q
l-read e o = ap (λ (x : Row). x.l) e ∙ o.derived.l-fits

-- the look at the pivots
pub placed-told : (b : Bool) (st ps : List ℕ) {r : Row} {p : Option ℕ} → Obeys (row_in st) → r ≡ row_in st → p ≡ progress_in st
    → Told b (Placed r.l ps p) → Told b (Placed (l_in st) ps (progress_in st))
placed-told b st ps o e g h = rw (l-read e o, g) at h

-- where the check took the row it tells the rest
pub begun-told : (st ps : List ℕ) {r : Row} {p : Option ℕ} (b : Bool) → 1037 ≤ length st → given tt ≡ verified r → r ≡ row_in st
    → Counts r.kp (k_in st) (t_in st) (mark_in st) → r.l ≤ length ps → p ≡ progress_in st → Told b (Placed r.l ps p) → Told b (Begun st ps)
begun-told st ps {r} {p} b long v e n places f = go b
  where
    o : Obeys (row_in st)
    o = subst Obeys e (obeying (sym v))

    go : (b : Bool) → Told b (Placed r.l ps p) → Told b (Begun st ps)
    go true h = record {
      numbers = record { size = long; rules = o; counts = rw e at n };
      places = omega (arith, places, l-read e o);
      placed = rw (l-read e o, f) at h;
    }
    go false h = λ u. h (rw (l-read e o, f) u.placed)

-- ---- room in the stores

-- the stores are measured first, and then what follows is asked
module _ (l t a d : ℕ) (o : Outcome (Unit {0})) where
  room-first : before (stores_room l t a d (given tt)) o ≡ stores_room l t a d o
  room-first = go (ltb a (l * l)) (ltb d (l * t))
    where
      go : (p q : Bool) → before (unless p 8 (unless q 8 (given (tt {0})))) o ≡ unless p 8 (unless q 8 o)
      go true q = refl
      go false true = refl
      go false false = refl

  pub room-passed : (x : Result (Unit {0}) Refusal) → outcome x ≡ stores_room l t a d (given tt) → x ≡ Ok tt → stores_room l t a d o ≡ o
  room-passed x q e = sym room-first ∙ went_on x q o tt e

  pub room-stopped : (x : Result (Unit {0}) Refusal) → outcome x ≡ stores_room l t a d (given tt) → (why : Refusal) → x ≡ Err why
      → outcome x ≡ stores_room l t a d o
  room-stopped x q why e = ap outcome e ∙ stopped x q o why e ∙ room-first

-- ---- a packet's symbol

-- the first row of a store, in a buffer of its own
pub first-copied : {w : ℕ} (a x₀ x : List ℕ) → RowCopied w 0 0 a x₀ x → (c : ℕ) → c < w → get_or x c 0 ≡ get_or a c 0
first-copied {w} a x₀ x s c h = let e : 0 * w + c ≡ c = omega arith in copied 0 a x₀ x s c h ∙ ap (λ (k : ℕ). get_or a k 0) e
