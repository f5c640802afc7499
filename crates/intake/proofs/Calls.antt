-- What each call has made sure of once nothing refuses it, and what its contract says then.
-- Assumes nothing.
use mathlib.Core.Path.{◌≡◌, refl, sym, ap, ap₂, ◌∙◌, subst}
use mathlib.Core.Bool.{Bool, true, false, not}
use mathlib.Core.List.{List}
use Prim.Native.Nat.{ℕ, ◌+◌, ◌*◌, ◌≤◌, ◌<◌}
use native.Mathlib.Nat.{zero-add}
use native.Mathlib.Omega.{arith}
use borrow.Author.Tests.{ltb-false, leb-false, eqb-true, eqb-false, not-false}
use lib.Dec.{eqb, leb, ltb}
use lib.ListN.{length, get_or, take, drop, get_or-append}
use lib.Seq.{ext_get_or, get_or-append-add}
use Rattle.field.specs.Answer.{Outcome, given, refused}
use Rattle.field.specs.Runs.{Written}
use Rattle.field.proofs.Parts.{part_length, part_at}
use Rattle.field.proofs.Refusals.{passed}
use Rattle.headers.specs.Row.{Obeys, l_of}
use Rattle.headers.specs.Told.{Told}
use Rattle.headers.specs.declared.row.Row.{Row}
use Rattle.headers.proofs.Rules.{passed-row}
use Rattle.headers.proofs.Tests.{denied}
use Rattle.linear.specs.Bytes.{Bytes}
use Rattle.linear.proofs.Elimination.{stepped-none}
use Rattle.linear.proofs.Keeping.{holds-included}
use Rattle.elimination.specs.Steps.{StoresRoom, column}
use Rattle.intake.specs.State.{Begun, row_in, t_in, l_in, tables_in, front, words}
use Rattle.intake.specs.Night.{Holding, Packet, Admitted, Unchanged, beginnable, takable, askable, stores_room, fresh}

-- ---- begin

pub record Beginnable (r : Row) (tables k t state pivots a d : ℕ) : Type 0 where
  pub rules : Obeys r
  pub all : tables ≡ 1024
  pub k-low : 1 ≤ k
  pub k-high : k ≤ r.kp
  pub t-low : 1 ≤ t
  pub rows : l_of r * l_of r ≤ a
  pub values : l_of r * t ≤ d
  pub long : 1037 ≤ state
  pub places : l_of r ≤ pivots

pub begins-by : (r : Row) (tables k t state pivots a d : ℕ) → beginnable r tables k t state pivots a d ≡ given tt
    → Beginnable r tables k t state pivots a d
begins-by r tables k t state pivots a d e =
    let p1 = passed-row _ tt e in
    let p2 = passed (not (eqb tables 1024)) 5 _ tt p1.1 in
    let p3 = passed (ltb k 1) 9 _ tt p2.1 in
    let p4 = passed (ltb r.kp k) 9 _ tt p3.1 in
    let p6 = passed (eqb t 0) 10 _ tt p4.1 in
    let p7 = passed (ltb a (l_of r * l_of r)) 8 _ tt p6.1 in
    let p8 = passed (ltb d (l_of r * t)) 8 _ tt p7.1 in
    let p9 = passed (ltb state 1037) 8 _ tt p8.1 in
    let p10 = passed (ltb pivots (l_of r)) 8 _ tt p9.1 in
    record {
      rules = p1.0;
      all = eqb-true tables 1024 (not-false (eqb tables 1024) p2.0);
      k-low = ltb-false k 1 p3.0;
      k-high = ltb-false r.kp k p4.0;
      t-low = let q : t ≡ 0 → ⊥ = eqb-false t 0 p6.0 in omega arith;
      rows = ltb-false a (l_of r * l_of r) p7.0;
      values = ltb-false d (l_of r * t) p8.0;
      long = ltb-false state 1037 p9.0;
      places = ltb-false pivots (l_of r) p10.0;
    }

-- the words of a begin say that nothing came
module _ (r : Row) (v : List ℕ) (k t : ℕ) (st ps a d st₁ : List ℕ) (b : Beginnable r (length v) k t (length st) (length ps) (length a) (length d))
    (high : t ≤ 65535) (w : Written (λ i. get_or (words r k t v) i 0) st st₁ 0 1037) where
  at : (i : ℕ) → i < 13 → get_or st₁ (0 + i) 0 ≡ get_or (front r k t) i 0
  at i h = w.part i (omega arith) ∙ get_or-append (front r k t) v 0 i (omega arith)

  long : length st₁ ≡ length st
  long = w.size

  row_is : row_in st₁ ≡ r
  row_is = rw (
    at 0 (omega arith),
    at 1 (omega arith),
    at 2 (omega arith),
    at 3 (omega arith),
    at 4 (omega arith),
    at 5 (omega arith),
    at 6 (omega arith),
    at 7 (omega arith),
    at 8 (omega arith),
  ) refl

  tables-are : tables_in st₁ ≡ v
  tables-are = ext_get_or 0 _ _ (size ∙ sym b.all) (λ i h. let l : i < 1024 = omega (arith, size) in
      part_at st₁ 13 1024 i l ∙ ap (λ (x : ℕ). get_or st₁ x 0) (sym (zero-add (13 + i))) ∙ w.part (13 + i) (omega arith) ∙ get_or-append-add
      (front r k t) v i 0)
    where
      size : length (take 1024 (drop 13 st₁)) ≡ 1024
      size = part_length st₁ 13 1024 (omega (arith, long, b.long))

  fresh-begun : Begun st₁ ps
  fresh-begun = record {
    numbers = record {
      size = omega (arith, long, b.long);
      rules = subst Obeys (sym row_is) b.rules;
      counts = record {
        k-low = omega (arith, at 9 (omega arith), b.k-low);
        k-high = omega (arith, at 9 (omega arith), at 0 (omega arith), b.k-high);
        t-low = omega (arith, at 10 (omega arith), b.t-low);
        t-high = omega (arith, at 10 (omega arith), high);
        mark-low = omega (arith, at 12 (omega arith));
        mark-high = omega (arith, at 12 (omega arith));
      };
    };
    places = omega (arith, ap l_of row_is, b.places);
    placed = rw (at 12 (omega arith), at 11 (omega arith)) (omega arith, λ i h. absurd (omega arith));
  }

  l-is : l_in st₁ ≡ l_of r
  l-is = ap l_of row_is

  pub fresh_holds : Bytes a → Bytes d → Holding (fresh r v k t) st₁ ps a d
  fresh_holds ba bd = record {
    begun = fresh-begun;
    named = record {
      row = row_is;
      tables = tables-are;
      k = at 9 (omega arith);
      t = at 10 (omega arith);
    };
    sent = record { all = omega arith; ids = λ i h. absurd (omega arith); bytes = λ i. omega arith };
    room = record {
      rows = subst (λ (x : ℕ). x ≤ length a) (sym (ap₂ ◌*◌ l-is l-is)) b.rows;
      symbols = subst (λ (x : ℕ). x ≤ length d) (sym (ap₂ ◌*◌ l-is (at 10 (omega arith)))) b.values;
    };
    says = rw (at 12 (omega arith), at 11 (omega arith))
        (stepped-none (l_in st₁) (column ps) ba bd, holds-included (λ i h. absurd (omega arith)) (λ i h. absurd (omega arith)));
  }

-- ---- a packet

-- the stores have room
stores-passed : (l t : ℕ) (a d : List ℕ) (o : Outcome (Unit {0})) → stores_room l t (length a) (length d) o ≡ given tt → StoresRoom l l t a d × (o ≡ given tt)
stores-passed l t a d o e =
    let p = passed (ltb (length a) (l * l)) 8 _ tt e in
    let q = passed (ltb (length d) (l * t)) 8 _ tt p.1 in
    (record { rows = ltb-false (length a) (l * l) p.0; symbols = ltb-false (length d) (l * t) q.0 }, q.1)

pub packet-passed : (e : ℕ) (s st ps a d : List ℕ) → Begun st ps → takable st e (length s) (length a) (length d) ≡ given tt → Packet e s st ps a d
packet-passed e s st ps a d b q =
    let p1 = passed (leb 16777216 e) 9 _ tt q in
    let p3 = passed (not (eqb (length s) (t_in st))) 10 _ tt p1.1 in
    record {
      begun = b;
      esi = let l = leb-false 16777216 e p1.0 in omega arith;
      size = eqb-true (length s) (t_in st) (not-false (eqb (length s) (t_in st)) p3.0);
      room = (stores-passed (l_in st) (t_in st) a d (given tt) p3.1).0;
    }

pub question-passed : (st a d o : List ℕ) → askable st (length a) (length d) (length o) ≡ given tt
    → StoresRoom (l_in st) (l_in st) (t_in st) a d × (l_in st * t_in st ≤ length o)
question-passed st a d o e =
    let p = stores-passed (l_in st) (t_in st) a d _ e in
    let q = passed (ltb (length o) (l_in st * t_in st)) 8 _ tt p.1 in
    (p.0, ltb-false (length o) (l_in st * t_in st) q.0)

-- ---- the refusals come first, and 14 before all

-- not begun
pub unbegun : {st ps : List ℕ} {o : Outcome (Unit {0})} (b : Bool) → not b ≡ true → Told b (Begun st ps) → Admitted st ps o (refused 14)
unbegun b e t = record { since = false; told = denied b e t; answer = refl }

pub unchanged : {st ps a d : List ℕ} → Unchanged st ps a d st ps a d
unchanged = record { state = refl; pivots = refl; rows = refl; symbols = refl }
