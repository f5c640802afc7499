-- How a call of the C interface that hands over values, or that writes a symbol, comes to what it tells; and that two results which its contract allows
-- are the same: the answer and the lent memory, for whatever outcome the contract names.
-- Assumes nothing.
use mathlib.Core.Path.{◌≡◌, refl, sym, ap, ◌∙◌, subst}
use mathlib.Core.Bool.{Bool, false}
use mathlib.Core.List.{List}
use Prim.Native.Nat.{ℕ, ◌≤◌, ◌<◌}
use borrow.Author.Tests.{lt-ltb, le-ltb, ltb-false}
use lib.Dec.{ltb}
use lib.ListN.{length}
use Rattle.std.specs.Prelude.{Result, Ok, Err}
use Rattle.field.specs.Answer.{Outcome, Left, given, refused, unless, before, outcome}
use Rattle.field.specs.Choice.{pick}
use Rattle.field.specs.declared.refusal.Refusal.{Refusal}
use Rattle.field.proofs.Refusals.{Settled, went_on, stopped, passed, passed-before, told}
use Rattle.field.proofs.Writing.{written_once}
use Rattle.exports.specs.Call.{code, Kept, Called, roomed, then_roomed, and_room, listed, single, Listing}
use Rattle.exports.specs.Stores.{ToldBy, TellsZero, flag}

kept-once : (o : Outcome (List ℕ)) (out m n : List ℕ) → Kept o out m → Kept o out n → m ≡ n
kept-once (given vs) out m n u w = written_once u w
kept-once (refused k) out m n u w = u ∙ sym w

pub called-once : {o : Outcome (List ℕ)} {out m n : List ℕ} {q r : ℕ} → Called o out m q → Called o out n r → (q ≡ r) × (m ≡ n)
called-once {o} {out} {m} {n} u w = (u.answer ∙ sym w.answer, kept-once o out m n u.memory w.memory)

pub listing-once : {o : Outcome (List ℕ)} {list l m out n p : List ℕ} {q r : ℕ}
    → Listing o list l out n q → Listing o list m out p r → (q ≡ r) × (l ≡ m) × (n ≡ p)
listing-once u w = let a = called-once u.places w.places in (a.0, a.1, (called-once u.told w.told).1)

pub called-short : (o : Outcome (List ℕ)) (out : List ℕ) (n : ℕ) → length out < n → Called (roomed out n o) out out 8
called-short o out n h = rw (lt-ltb (length out) n h) (record { answer = refl; memory = refl })

-- a test that did not refuse
pub called-past : {o : Outcome (List ℕ)} {out now : List ℕ} {r : ℕ} {b : Bool} (n : ℕ) → b ≡ false → Called o out now r → Called (unless b n o) out now r
called-past {o} {out} {now} {r} n e w = subst (λ (a : Bool). Called (unless a n o) out now r) (sym e) w

pub called-roomed : {o : Outcome (List ℕ)} {now : List ℕ} {r : ℕ} (out : List ℕ) (n : ℕ) → n ≤ length out → Called o out now r
    → Called (roomed out n o) out now r
called-roomed out n h w = called-past 8 (le-ltb (length out) n h) w

-- of an outcome that is known in another form
pub called-as : {A : Type 0} (F : A → Outcome (List ℕ)) {o p : A} {out now : List ℕ} {r : ℕ} → p ≡ o → Called (F p) out now r → Called (F o) out now r
called-as {A} F {o} {p} {out} {now} {r} e w = subst (λ (x : A). Called (F x) out now r) e w

-- What the layer below answered: o is what its contract says, and a value or a refusal was found there.
module _ {A : Type 0} (f : A → List ℕ) {o : Outcome A} {out now : List ℕ} {r : ℕ} where
  -- it is handed over, if there is room
  pub called_of : {p : Outcome A} → p ≡ o → Called (then_roomed out (listed f p)) out now r → Called (then_roomed out (listed f o)) out now r
  called_of e w = called-as (λ (p : Outcome A). then_roomed out (listed f p)) e w

  -- a refusal is handed on, and nothing is written
  pub called-refused : {n : ℕ} → refused n ≡ o → r ≡ n → now ≡ out → Called (then_roomed out (listed f o)) out now r
  called-refused e q z = called_of e (record { answer = q; memory = z })

  -- the same, where room was asked for first
  pub called-first : (n : ℕ) {x : A} → given x ≡ o → Called (roomed out n (given (f x))) out now r → Called (roomed out n (listed f o)) out now r
  called-first n e w = called-as (λ (p : Outcome A). roomed out n (listed f p)) e w

  pub called-late : {n : ℕ} → refused n ≡ o → r ≡ n → now ≡ out → Called (listed f o) out now r
  called-late e q z = called-as (listed f) e (record { answer = q; memory = z })

-- one value had room
pub called-one : {A : Type 0} (f : A → ℕ) {now : List ℕ} {r : ℕ} (out : List ℕ) → 1 ≤ length out → (o : Outcome A)
    → Called (then_roomed out (listed (λ x. single (f x)) o)) out now r → Called (listed (λ x. single (f x)) o) out now r
called-one f {now} {r} out h (given x) w = subst (λ (b : Bool). Called (unless b 8 (given (single (f x)))) out now r) (le-ltb (length out) 1 h) w
called-one f out h (refused n) w = w

-- Limits and room for one value were asked first: x told what they are.
module _ (limits : Outcome (Unit {0})) (out : List ℕ) (x : Result (Unit {0}) Refusal) (q : outcome x ≡ and_room limits (length out) 1) where
  room : x ≡ Ok tt → 1 ≤ length out
  room e = ltb-false (length out) 1 (passed (ltb (length out) 1) 8 (given tt) tt (passed-before limits _ tt (told x tt q e)).2).0

  pub called-fit : {now : List ℕ} {r : ℕ} (o : Outcome ℕ) → x ≡ Ok tt → Called (then_roomed out (listed single o)) out now r
      → Called (before (and_room limits (length out) 1) (listed single o)) out now r
  called-fit o e w = called-as (λ (a : Outcome (List ℕ)). a) (sym (went_on x q (listed single o) tt e)) (called-one (λ x. x) out (room e) o w)

  pub called-unfit : {r : ℕ} (o : Outcome (List ℕ)) (why : Refusal) → x ≡ Err why → r ≡ code (outcome x)
      → Called (before (and_room limits (length out) 1) o) out out r
  called-unfit o why e h =
      called-as (λ (a : Outcome (List ℕ)). a) (stopped x q o why e)
      (record { answer = h ∙ ap (λ (y : Result (Unit {0}) Refusal). code (outcome y)) e; memory = refl })

  pub listing-unfit : {list : List ℕ} {r : ℕ} (o : Outcome (List ℕ)) (why : Refusal) → x ≡ Err why → r ≡ code (outcome x)
      → Listing (before (and_room limits (length out) 1) o) list list out out r
  listing-unfit {list} {r} o why e h =
      let a = h ∙ ap (λ (y : Result (Unit {0}) Refusal). code (outcome y)) e in
      subst (λ (b : Outcome (List ℕ)). Listing b list list out out r) (stopped x q o why e)
      (record { places = record { answer = a; memory = refl }; told = record { answer = a; memory = refl } })

  -- the list l stands at the front and its length was told, or nothing was written: `asked` are the call's own refusals
  pub listing-fit : {list list' now : List ℕ} {r : ℕ} (asked : Outcome (Unit {0})) (l : List ℕ) (o : Outcome ℕ) → x ≡ Ok tt
      → o ≡ before asked (given (length l)) → Left o list list' (Kept (given l) list list') → Called (then_roomed out (listed single o)) out now r
      → Listing (before (and_room limits (length out) 1) (before asked (given l))) list list' out now r
  listing-fit {list} {list'} {now} {r} asked l o e s m w =
      subst (λ (b : Outcome (List ℕ)). Listing b list list' out now r) (sym (went_on x q (before asked (given l)) tt e)) (go asked s)
    where
      to : {p : Outcome ℕ} → o ≡ p → Left p list list' (Kept (given l) list list') × Called (listed single p) out now r
      to z = (
        subst (λ (a : Outcome ℕ). Left a list list' (Kept (given l) list list')) z m,
        subst (λ (a : Outcome ℕ). Called (listed single a) out now r) z (called-one (λ x. x) out (room e) o w),
      )

      go : (asked : Outcome (Unit {0})) → o ≡ before asked (given (length l)) → Listing (before asked (given l)) list list' out now r
      go (given u) z = let a = to z in record { places = record { answer = a.1.answer; memory = a.0 }; told = a.1 }
      go (refused k) z = let a = to z in record { places = record { answer = a.1.answer; memory = a.0 }; told = a.1 }

-- a call that writes a symbol: nothing was refused before the layer below was asked, and what this answered was handed over
pub zero-told : {limits : Outcome (Unit {0})} {C : Result Bool Refusal → List ℕ → Type 0} {xs ys out now : List ℕ} {n r : ℕ}
    → given tt ≡ and_room limits (length out) 1 → (below : Result Bool Refusal) → C below ys
    → Called (then_roomed out (listed flag (outcome below))) out now n → r ≡ n → TellsZero limits C xs ys out now r
zero-told {limits} {C} {xs} {ys} {out} {now} {n} {r} q below m w e =
    let had = ltb-false (length out) 1 (passed (ltb (length out) 1) 8 (given tt) tt (passed-before limits _ tt (sym q)).2).0 in
    let told = called-one (λ (z : Bool). pick z 1 0) out had (outcome below) w in
    record { zero = rw (← q, e) (below, m, told) }

-- and where something was refused before, it was not asked
pub zero-untold : {limits : Outcome (Unit {0})} {C : Result Bool Refusal → List ℕ → Type 0} {xs ys out now : List ℕ} {n r : ℕ}
    → refused n ≡ and_room limits (length out) 1 → r ≡ n → ys ≡ xs → now ≡ out → TellsZero limits C xs ys out now r
zero-untold q h s m = record { zero = rw (← q) (h, s, m) }

-- the same of a call that has no limits
module _ {C : Result Bool Refusal → List ℕ → Type 0} {xs ys out now : List ℕ} {r : ℕ} where
  pub zero-short : length out < 1 → r ≡ 8 → ys ≡ xs → now ≡ out → TellsZero (given tt) C xs ys out now r
  zero-short h e s m = record { zero = rw (lt-ltb (length out) 1 h) (e, s, m) }

  pub zero-roomed : (below : Result Bool Refusal) → 1 ≤ length out → C below ys → Called (then_roomed out (listed flag (outcome below))) out now r
      → TellsZero (given tt) C xs ys out now r
  zero-roomed below h m w =
      record { zero = rw (le-ltb (length out) 1 h) (below, m, called-one (λ (z : Bool). pick z 1 0) out h (outcome below) w) }

-- two results are the same where those of the layer below are
module _ {C : Result Bool Refusal → List ℕ → Type 0} (once : Settled C) where
  by-asked : (p : Outcome (Unit {0})) (xs ys zs out m n : List ℕ) (q r : ℕ) → ToldBy p C xs ys out m q → ToldBy p C xs zs out n r
      → (q ≡ r) × (ys ≡ zs) × (m ≡ n)
  by-asked (given _) xs ys zs out m n q r u w =
      let e = once u.0 w.0 ys zs u.1 w.1 in
      let c = called-once u.2 (called-as (λ (b : Result Bool Refusal). listed flag (outcome b)) (sym e.0) w.2) in
      (c.0, e.1, c.1)
  by-asked (refused k) xs ys zs out m n q r u w = (u.0 ∙ sym w.0, u.1 ∙ sym w.1, u.2 ∙ sym w.2)

  pub zero-told-once : {limits : Outcome (Unit {0})} {xs ys zs out m n : List ℕ} {q r : ℕ} → TellsZero limits C xs ys out m q
      → TellsZero limits C xs zs out n r → (q ≡ r) × (ys ≡ zs) × (m ≡ n)
  zero-told-once {limits} {xs} {ys} {zs} {out} {m} {n} {q} {r} u w = by-asked (and_room limits (length out) 1) xs ys zs out m n q r u.zero w.zero
