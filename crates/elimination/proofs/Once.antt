-- The contract of `solve_stored` settles the verdict, the symbols and both stores: any two results that it allows are equal.
-- Assumes nothing.
use mathlib.Core.Path.{◌≡◌, refl, sym, ap, ◌∙◌, subst}
use mathlib.Core.List.{List}
use Prim.Native.Nat.{ℕ}
use Rattle.field.proofs.Writing.{written_once}
use Rattle.linear.specs.System.{System}
use Rattle.linear.specs.Bytes.{Bytes, stored_system, OctetSymbols}
use Rattle.linear.specs.Elimination.{Holds}
use Rattle.linear.proofs.AnswersBytes.{shortfall-bytes-once, solved-bytes-not-contradiction, open-bytes-not-contradiction, solved-bytes-not-open}
use Rattle.linear.proofs.Keeping.{holds-included}
use Rattle.linear.proofs.Finish.{out_once}
use Rattle.elimination.specs.declared.verdict.Verdict.{Verdict}
use Rattle.elimination.specs.declared.verdict.Verdict.TheVariants.{Solved, Contradiction, Open}
use Rattle.elimination.specs.Verdict.{Means, Answered}

-- of one system there is one verdict, whatever the store was before
pub verdict-once : (L T : ℕ) (S : System ℕ) (o o₁ p p₁ : List ℕ) (v w : Verdict) → Means L T S o o₁ v → Means L T S p p₁ w → v ≡ w
verdict-once L T S o o₁ p p₁ Solved Solved a b = refl
verdict-once L T S o o₁ p p₁ Solved Contradiction a b = absurd (solved-bytes-not-contradiction a.0 b.0)
verdict-once L T S o o₁ p p₁ Solved (Open n) a b = absurd (solved-bytes-not-open a.0 b.0)
verdict-once L T S o o₁ p p₁ Contradiction Solved a b = absurd (solved-bytes-not-contradiction b.0 a.0)
verdict-once L T S o o₁ p p₁ Contradiction Contradiction a b = refl
verdict-once L T S o o₁ p p₁ Contradiction (Open n) a b = absurd (open-bytes-not-contradiction b.0 a.0)
verdict-once L T S o o₁ p p₁ (Open m) Solved a b = absurd (solved-bytes-not-open b.0 a.0)
verdict-once L T S o o₁ p p₁ (Open m) Contradiction a b = absurd (open-bytes-not-contradiction a.0 b.0)
verdict-once L T S o o₁ p p₁ (Open m) (Open n) a b = ap Open (shortfall-bytes-once a.1 b.1)

-- and from one store before it one store after
store-once : (L T : ℕ) (S : System ℕ) (o o₁ o₂ : List ℕ) (v : Verdict) → Means L T S o o₁ v → Means L T S o o₂ v → o₁ ≡ o₂
store-once L T S o o₁ o₂ Solved a b = out_once a.0 b.0 a.1 b.1
store-once L T S o o₁ o₂ Contradiction a b = a.1 ∙ sym b.1
store-once L T S o o₁ o₂ (Open n) a b = a.2 ∙ sym b.2

-- so both are settled
pub means-once : (L T : ℕ) (S : System ℕ) (o o₁ o₂ : List ℕ) (v w : Verdict) → Means L T S o o₁ v → Means L T S o o₂ w → (v ≡ w) × (o₁ ≡ o₂)
means-once L T S o o₁ o₂ v w a b =
    let e = verdict-once L T S o o₁ o o₂ v w a b in
    (e, store-once L T S o o₁ o₂ v a (subst (λ (x : Verdict). Means L T S o o₂ x) (sym e) b))

-- two stores of octets hold the equations that stand in them
pub holds-stored : (M L T : ℕ) (a d : List ℕ) → Holds M L T (stored_system M L T a d) a d
holds-stored M L T a d =
    holds-included (λ i h. (i, h, record { coefs = λ c l. refl; bytes = λ t l. refl })) (λ i h. (i, h, record { coefs = λ c l. refl; bytes = λ t l. refl }))

pub stored-octets : (M L T : ℕ) (a d : List ℕ) → Bytes d → OctetSymbols T (stored_system M L T a d)
stored-octets M L T a d b = record { below = λ i h t l. b _ }

-- the verdict, the out store and both stores: lent stores hold octets, and that is all that is asked
pub answered-once : (M L T : ℕ) {a d o a₁ d₁ o₁ a₂ d₂ o₂ : List ℕ} {v w : Verdict} → Bytes d
    → Answered M L T a d o a₁ d₁ o₁ v → Answered M L T a d o a₂ d₂ o₂ w → (v ≡ w) × (o₁ ≡ o₂) × (a₁ ≡ a₂) × (d₁ ≡ d₂)
answered-once M L T {a} {d} {o} {a₁} {d₁} {o₁} {a₂} {d₂} {o₂} {v} {w} b x y =
    let S : System ℕ = stored_system M L T a d in
    let small = stored-octets M L T a d b in
    let first = holds-stored M L T a d in
    let e = means-once L T S o o₁ o₂ v w (x.answer S small first) (y.answer S small first) in
    (e.0, e.1, written_once x.rows y.rows, written_once x.symbols y.symbols)
