-- Tests and the facts that they decide: one record, so that the test and the fact are found by inference.
-- Assumes nothing.
use Rattle.std.proofs.Common.{◌≡◌, ℕ, ◌<◌, ◌≤◌, Bool, true, false, not, T, eqb, ltb, leb, sym, refl, arith, ltb-false, ltb-true, eqb-true, leb-false, leb-true}
use borrow.Author.Tests.{eqb-false}
use Rattle.field.specs.Choice.{both}
use Rattle.headers.specs.Told.{Told}

-- b is true where A holds, and false where it does not
pub record Tells (b : Bool) (A : Type 0) : Type 0 where
  pub passes : b ≡ true → A
  pub breaks : b ≡ false → A → ⊥

true-false : {A : Type 0} → true ≡ false → A
true-false e = let z : ◌≡◌ {A = ℕ} 0 1 = cc in absurd (omega arith)

pub told : (b : Bool) {A : Type 0} → Tells b A → Told b A
told true t = t.passes refl
told false t = t.breaks refl

-- what a caller knows past `if !f(..) { return .. }`, and in it
pub granted : {A : Type 0} (b : Bool) → not b ≡ false → Told b A → A
granted true e h = h
granted false e h = true-false e

pub denied : {A : Type 0} (b : Bool) → not b ≡ true → Told b A → A → ⊥
denied true e h a = true-false (sym e)
denied false e h a = h a

pub is_true : {b : Bool} {A : Type 0} → Tells b A → A → b ≡ true
is_true {b = true} t a = refl
is_true {b = false} t a = absurd (t.breaks refl a)

pub is_false : {b : Bool} {A : Type 0} → Tells b A → (A → ⊥) → b ≡ false
is_false {b = true} t n = absurd (n (t.passes refl))
is_false {b = false} t n = refl

pub tells_both : {b c : Bool} {A B : Type 0} → Tells b A → Tells c B → Tells (both b c) (A × B)
tells_both {b = true} t u = record { passes = λ e. (t.passes refl, u.passes e); breaks = λ e h. u.breaks e h.1 }
tells_both {b = false} t u = record { passes = λ e. true-false (sym e); breaks = λ e h. t.breaks refl h.0 }

pub tells-true : Tells true (◌≡◌ {A = ℕ} 0 0)
tells-true = record { passes = λ e. refl; breaks = λ e h. true-false e }

pub tells-not : {b : Bool} {A : Type 0} → Tells b A → Tells (not b) (A → ⊥)
tells-not {b = true} t = record { passes = λ e. true-false (sym e); breaks = λ e h. h (t.passes refl) }
tells-not {b = false} t = record { passes = λ e. t.breaks refl; breaks = λ e h. true-false e }

pub tells_as : {b : Bool} {A B : Type 0} → (A → B) → (B → A) → Tells b A → Tells b B
tells_as f g t = record { passes = λ e. f (t.passes e); breaks = λ e h. t.breaks e (g h) }

pub tells-le : (m n : ℕ) → Tells (leb m n) (m ≤ n)
tells-le m n = record { passes = leb-true m n; breaks = λ e h. omega (arith, leb-false m n e) }

pub tells-lt : (m n : ℕ) → Tells (ltb m n) (m < n)
tells-lt m n = record { passes = ltb-true m n; breaks = λ e h. omega (arith, ltb-false m n e) }

pub tells-eq : (m n : ℕ) → Tells (eqb m n) (m ≡ n)
tells-eq m n = record { passes = eqb-true m n; breaks = eqb-false m n }

-- a computed test
pub is-test : (b : Bool) → T b → b ≡ true
is-test true t = refl
is-test false t = absurd t
