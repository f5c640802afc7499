-- An answer is settled by what it stands for: of two that stand for the same, the contracts allow only one.
-- Assumes nothing.
use Rattle.std.proofs.Common.{◌≡◌, ℕ, refl, ap}
use Rattle.std.specs.Prelude.{Result, Ok, Err}
use Rattle.field.proofs.Answers.{outcome_of-only}
use Rattle.headers.proofs.Rules.{part-once, refused-disobeys}
use Rattle.headers.proofs.Accepted.{of-five}
use Rattle.headers.specs.Row as row
use Rattle.headers.specs.Shift as shift
use Rattle.field.specs.declared.refusal.Part.{Part}
use Rattle.field.specs.declared.refusal.Refusal.{Refusal}
use Rattle.headers.specs.declared.beneath.row.Numbers.{Numbers}
use Rattle.headers.specs.declared.ids.Isi.{Isi}

-- beneath the check
pub derives-once : (kp j s h w : ℕ) (a b : Result Numbers Part) → row.Derives kp j s h w a → row.Derives kp j s h w b → a ≡ b
derives-once kp j s h w (Ok n) (Ok m) u v =
    let d = u.derived in
    let e = v.derived in
    ap Ok (rw (d.l-fits, d.p-fits, d.b-fits, d.p1-fits, e.l-fits, e.p-fits, e.b-fits, e.p1-fits))
derives-once kp j s h w (Ok n) (Err q) u v = absurd (refused-disobeys v (of-five u))
derives-once kp j s h w (Err q) (Ok n) u v = absurd (refused-disobeys u (of-five v))
derives-once kp j s h w (Err p) (Err q) u v = ap Err (part-once (row.row_of kp j s h w) p q u v)

-- isi_of
pub shifted-only : (p q : Result Isi Refusal) → shift.isi_outcome p ≡ shift.isi_outcome q → p ≡ q
shifted-only = outcome_of-only (λ (i : Isi). i.0) (λ n. record { 0 = n }) (λ _. refl)
