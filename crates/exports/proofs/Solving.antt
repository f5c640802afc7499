-- The calls over a block: where 8 for a slice without room stands among the refusals, and that two results which a contract allows are the same.
-- Assumes nothing.
use mathlib.Core.Path.{◌≡◌, refl, sym, ap, ◌∙◌, subst}
use mathlib.Core.Bool.{Bool, true, false, not}
use mathlib.Core.List.{List, [], ◌++◌}
use Prim.Native.Nat.{ℕ, ◌*◌, ◌≤◌, ◌<◌}
use native.Mathlib.Nat.{mul-le-mul}
use native.Mathlib.Omega.{arith}
use borrow.Author.Tests.{lt-ltb, le-ltb, lt-leb, ltb-false, eqb-false}
use lib.Dec.{eqb, leb, ltb}
use lib.ListN.{length}
use Rattle.std.specs.Prelude.{Result, Ok, Err}
use Rattle.field.specs.Answer.{Outcome, given, refused, unless, before, outcome, code_of}
use Rattle.field.specs.Choice.{pick}
use Rattle.field.specs.declared.refusal.Refusal.{Refusal}
use Rattle.field.proofs.Answers.{given-not-refused}
use Rattle.field.proofs.Writing.{written_once}
use Rattle.headers.specs.Row.{Obeys, verified, l_of}
use Rattle.headers.specs.declared.row.Row.{Row}
use Rattle.headers.proofs.Rules.{obeying}
use Rattle.elimination.specs.declared.verdict.Verdict.{Verdict}
use Rattle.elimination.proofs.Once.{means-once}
use Rattle.solver.specs.Display.{any_large, located, whereof}
use Rattle.solver.specs.System.{Solves, admitted, solvable, system_of, equations}
use Rattle.solver.specs.declared.display.Place.{Place}
use Rattle.solver.specs.declared.display.Place.TheVariants.{Arrived, Rebuilt}
use Rattle.exports.specs.Call.{Called, Kept, code, and_room, listed, then_roomed, roomed}
use Rattle.exports.specs.Intakes.{solution_code, lacking_in}
use Rattle.exports.specs.Solving.{verdict_code, lacking, taken, SolvingBy, Solving, place_numbers, displayed}

-- the same values were written
kept_same : {f g h us vs : List ℕ} → us ≡ vs → Kept (given us) f g → Kept (given vs) f h → g ≡ h
kept_same {f} {g} {h} {us} {vs} e u w = written_once (subst (λ (l : List ℕ). Kept (given l) f g) e u) w

-- the answer, and all four stores, of a call that was taken and of one that was refused
solving-by-once : (p : Outcome (Unit {0})) (r : Row) (v : List ℕ) (k t : ℕ) (es xs a d o f a₁ d₁ o₁ f₁ a₂ d₂ o₂ f₂ : List ℕ) (m n : ℕ)
    → SolvingBy p r v k t es xs a d o f a₁ d₁ o₁ f₁ m → SolvingBy p r v k t es xs a d o f a₂ d₂ o₂ f₂ n
    → (m ≡ n) × (a₁ ≡ a₂) × (d₁ ≡ d₂) × (o₁ ≡ o₂) × (f₁ ≡ f₂)
solving-by-once (given u) r v k t es xs a d o f a₁ d₁ o₁ f₁ a₂ d₂ o₂ f₂ m n h g =
    let e = means-once (l_of r) t (system_of r v k t es xs) o o₁ o₂ h.0 g.0 h.1.1 g.1.1 in (
      h.2 ∙ ap verdict_code e.0 ∙ sym g.2,
      written_once h.1.2 g.1.2,
      written_once h.1.3 g.1.3,
      e.1,
      kept_same (ap lacking e.0) h.3 g.3,
    )
solving-by-once (refused e) r v k t es xs a d o f a₁ d₁ o₁ f₁ a₂ d₂ o₂ f₂ m n h g =
    (h.0 ∙ sym g.0, h.1 ∙ sym g.1, h.2 ∙ sym g.2, h.3 ∙ sym g.3, h.4 ∙ sym g.4)

-- the contract settles them
pub solving-once : (r : Row) (v : List ℕ) (k t : ℕ) (es xs a d o f a₁ d₁ o₁ f₁ a₂ d₂ o₂ f₂ : List ℕ) (m n : ℕ)
    → Solving r v k t es xs a d o f a₁ d₁ o₁ f₁ m → Solving r v k t es xs a d o f a₂ d₂ o₂ f₂ n → (m ≡ n) × (a₁ ≡ a₂) × (d₁ ≡ d₂) × (o₁ ≡ o₂) × (f₁ ≡ f₂)
solving-once r v k t es xs a d o f a₁ d₁ o₁ f₁ a₂ d₂ o₂ f₂ m n =
    solving-by-once (taken r v k t es xs a d o f) r v k t es xs a d o f a₁ d₁ o₁ f₁ a₂ d₂ o₂ f₂ m n

-- a test that stands before both
past : (b : Bool) (n : ℕ) (o p : Outcome (Unit {0})) → (b ≡ false → and_room o 0 1 ≡ p) → and_room (unless b n o) 0 1 ≡ unless b n p
past true n o p h = refl
past false n o p h = h refl

past_row : (r : Row) (o p : Outcome (Unit {0})) → (Obeys r → and_room o 0 1 ≡ p) → and_room (before (verified r) o) 0 1 ≡ before (verified r) p
past_row r o p h = go (verified r) (λ e. h (obeying e))
  where
    go : (x : Outcome (Unit {0})) → (x ≡ given tt → and_room o 0 1 ≡ p) → and_room (before x o) 0 1 ≡ before x p
    go (given a) f = f refl
    go (refused n) f = refl

eight : (b : Bool) (o : Outcome (Unit {0})) → and_room o 0 1 ≡ refused 8 → and_room (unless b 8 o) 0 1 ≡ refused 8
eight true o h = refl
eight false o h = h

-- a call without room for rows is refused as one is that has room for them, and none for what follows
pub no_rows : (r : Row) (tables k t n : ℕ) (large : Bool) (came a d o : ℕ)
    → and_room (solvable r tables k t n large came a d o) 0 1 ≡ solvable r tables k t n large came 0 d o
no_rows r tables k t n large came a d o =
    past_row r _ _ (λ e. past (not (eqb tables 1024)) 5 _ _ (λ _.
    past large 9 _ _ (λ _. past (ltb k 1) 9 _ _ (λ _. past (ltb r.kp k) 9 _ _ (λ _. past (ltb 65535 n) 9 _ _ (λ _.
    past (eqb t 0) 10 _ _ (λ _. past (not (eqb came (n * t))) 10 _ _ (λ _.
    eight (ltb a (equations r k n * l_of r)) _ (eight (ltb d (equations r k n * t)) _ (eight (ltb o (l_of r * t)) (given tt) refl))
    ∙ sym (rw (lt-ltb 0 (equations r k n * l_of r) (some e)) refl)))))))))
  where
    some : Obeys r → 0 < equations r k n * l_of r
    some e =
        let s = e.ranges in
        omega (arith, s.s-low, mul-le-mul {n₁ = 1} {m₁ = 1} {n₂ = equations r k n} {m₂ = l_of r} (omega (arith, s.s-low)) (omega (arith, s.s-low)))

module _ (out : List ℕ) (p : Place) where
  place-roomed : ltb (length out) 2 ≡ false → given (place_numbers p) ≡ then_roomed out (given (place_numbers p))
  place-roomed e = go p
    where
      go : (p : Place) → given (place_numbers p) ≡ then_roomed out (given (place_numbers p))
      go (Arrived s) = sym (rw e refl)
      go (Rebuilt s) = sym (rw e refl)

  -- a test that stands before all three
  passes : (b : Bool) (n : ℕ) (x y z : Outcome (Unit {0}))
      → (b ≡ false → before x (roomed out 2 (listed place_numbers (before y (given p)))) ≡ then_roomed out (listed place_numbers (before z (given p))))
      → before (unless b n x) (roomed out 2 (listed place_numbers (before (unless b n y) (given p))))
      ≡ then_roomed out (listed place_numbers (before (unless b n z) (given p)))
  passes true n x y z h = refl
  passes false n x y z h = h refl

  -- room for the symbols, room for the values, the symbol's number
  ends : (b c d : Bool) → ltb (length out) 2 ≡ b
      → before (unless c 8 (given (tt {0}))) (unless b 8 (listed place_numbers (before (unless c 8 (unless d 6 (given (tt {0})))) (given p))))
      ≡ then_roomed out (listed place_numbers (before (unless (pick b true c) 8 (unless d 6 (given (tt {0})))) (given p)))
  ends true true true e = refl
  ends true true false e = refl
  ends true false true e = refl
  ends true false false e = refl
  ends false true true e = refl
  ends false true false e = refl
  ends false false true e = refl
  ends false false false e = place-roomed e

-- a slice without room, taken for a rebuilt store without room, is refused in 8's place
pub display-room : (k t : ℕ) (es : List ℕ) (came built i : ℕ) (out : List ℕ)
    → displayed k t es came built i out ≡ then_roomed out (listed place_numbers (located k t es came (pick (ltb (length out) 2) 0 built) i))
display-room k t es came built i out =
    let p = whereof t es i in
    passes out p (ltb k 1) 9 _ _ _ (λ f. passes out p (ltb 56403 k) 9 _ _ _ (λ _. passes out p (ltb 65535 (length es)) 9 _ _ _ (λ _.
    passes out p (any_large es) 9 _ _ _ (λ _.
    passes out p (eqb t 0) 10 _ _ _ (λ g. passes out p (not (eqb came (length es * t))) 10 _ _ _ (λ _.
    rw (lt-leb k 0 (ltb-false k 1 f), measured-is (ltb (length out) 2) f g) (ends out p (ltb (length out) 2) (ltb built (k * t)) (leb k i) refl)))))))
  where
    measured-is : (b : Bool) → ltb k 1 ≡ false → eqb t 0 ≡ false → ltb (pick b 0 built) (k * t) ≡ pick b true (ltb built (k * t))
    measured-is true f g =
        let h : t ≡ 0 → ⊥ = eqb-false t 0 g in
        lt-ltb 0 (k * t) (mul-le-mul {n₁ = 1} {m₁ = 1} {n₂ = k} {m₂ = t} (ltb-false k 1 f) (omega arith))
    measured-is false f g = refl

-- what `locate` answered, handed over
pub called-place : (k t : ℕ) (es : List ℕ) (came built i : ℕ) {out now : List ℕ} {m n r : ℕ} (o : Outcome Place)
    → m ≡ pick (ltb (length out) 2) 0 built → o ≡ located k t es came m i
    → Called (then_roomed out (listed place_numbers o)) out now n → r ≡ n → Called (displayed k t es came built i out) out now r
called-place k t es came built i {out} o e q w z = rw (display-room k t es came built i out, ← e, ← q, z) w

-- v is told as w is
pub told-as : (v w : Verdict) {f g : List ℕ} → v ≡ w → Kept (given (lacking w)) f g → (verdict_code w ≡ verdict_code v) × Kept (given (lacking v)) f g
told-as v w {f} {g} e h = (ap verdict_code (sym e), subst (λ (x : Verdict). Kept (given (lacking x)) f g) (sym e) h)

module _ (r : Row) (v : List ℕ) (k t : ℕ) (es xs a d o : List ℕ) where
  never : (p : Outcome (Unit {0})) → and_room p 0 1 ≡ given tt → ⊥
  never (given u) e = given-not-refused tt 8 (sym e)
  never (refused n) e = given-not-refused tt n (sym e)

  -- what `solve` answers that was lent no room for rows: 8 at the latest
  without : and_room (admitted r v k t es xs a d o) 0 1 ≡ admitted r v k t es xs [] d o
  without = no_rows r (length v) k t (length es) (any_large es) (length xs) (length a) (length d) (length o)

  pub rows-wanted : (a₁ d₁ o₁ : List ℕ) (y : Result Verdict Refusal) (x : Verdict) → Solves r v k t es xs [] d o a₁ d₁ o₁ y → y ≡ Ok x → ⊥
  rows-wanted a₁ d₁ o₁ y x h e = never (admitted r v k t es xs a d o) (without ∙ (subst (Solves r v k t es xs [] d o a₁ d₁ o₁) e h).0)

  pub rows-refused : (a₁ d₁ o₁ : List ℕ) {n : ℕ} (y : Result Verdict Refusal) (w : Refusal) → Solves r v k t es xs [] d o a₁ d₁ o₁ y → y ≡ Err w
      → n ≡ code_of w → (n ≡ code (taken r v k t es xs a d o [])) × ((a₁ ++ a ≡ a) × (d₁ ≡ d) × (o₁ ≡ o))
  rows-refused a₁ d₁ o₁ {n} y w h e q =
      let u = subst (Solves r v k t es xs [] d o a₁ d₁ o₁) e h in
      (q ∙ ap code (sym (without ∙ u.0)), (ap (λ (l : List ℕ). l ++ a) u.1, u.2, u.3))

  module _ (f a₁ d₁ o₁ : List ℕ) {n : ℕ} where
    -- a call without room for the shortfall
    pub unroomed : length f < 1 → n ≡ code (taken r v k t es xs a d o []) → (a₁ ≡ a) × (d₁ ≡ d) × (o₁ ≡ o) → Solving r v k t es xs a d o f a₁ d₁ o₁ f n
    unroomed h q u = go (admitted r v k t es xs a d o) q
      where
        go : (p : Outcome (Unit {0})) → n ≡ code (and_room p 0 1) → SolvingBy (and_room p (length f) 1) r v k t es xs a d o f a₁ d₁ o₁ f n
        go (given x) e = rw (lt-ltb (length f) 1 h) (e, u.0, u.1, u.2, refl)
        go (refused m) e = (e, u.0, u.1, u.2, refl)

    -- a call that was refused, with room or without
    pub told-refused : (y : Result Verdict Refusal) (w : Refusal) → Solves r v k t es xs a d o a₁ d₁ o₁ y → y ≡ Err w → n ≡ code_of w
        → Solving r v k t es xs a d o f a₁ d₁ o₁ f n
    told-refused y w h e q =
        let u = subst (Solves r v k t es xs a d o a₁ d₁ o₁) e h in
        subst (λ (p : Outcome (Unit {0})). SolvingBy (and_room p (length f) 1) r v k t es xs a d o f a₁ d₁ o₁ f n) (sym u.0) (q, u.1, u.2, u.3, refl)

    -- a call with room
    pub told-solved : (f₁ : List ℕ) (y : Result Verdict Refusal) → 1 ≤ length f → Solves r v k t es xs a d o a₁ d₁ o₁ y
        → n ≡ solution_code y → Kept (lacking_in y) f f₁ → Solving r v k t es xs a d o f a₁ d₁ o₁ f₁ n
    told-solved f₁ (Ok x) l u q m =
        subst (λ (p : Outcome (Unit {0})). SolvingBy (and_room p (length f) 1) r v k t es xs a d o f a₁ d₁ o₁ f₁ n) (sym u.0)
        (rw (le-ltb (length f) 1 l) (x, u, q, m))
    told-solved f₁ (Err w) l u q m =
        subst (λ (p : Outcome (Unit {0})). SolvingBy (and_room p (length f) 1) r v k t es xs a d o f a₁ d₁ o₁ f₁ n) (sym u.0) (q, u.1, u.2, u.3, m)

  pub told-unroomed : (f a₁ d₁ o₁ : List ℕ) {n : ℕ} (y : Result Verdict Refusal) → length f < 1 → Solves r v k t es xs [] d o a₁ d₁ o₁ y
      → n ≡ code (outcome y) → Solving r v k t es xs a d o f (a₁ ++ a) d₁ o₁ f n
  told-unroomed f a₁ d₁ o₁ (Ok x) h u q = absurd (rows-wanted a₁ d₁ o₁ (Ok x) x u refl)
  told-unroomed f a₁ d₁ o₁ (Err w) h u q = let k = rows-refused a₁ d₁ o₁ (Err w) w u refl q in unroomed f (a₁ ++ a) d₁ o₁ h k.0 k.1
