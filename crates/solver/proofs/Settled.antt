-- The contract of a call settles its answer and all lent memory: any two results that it allows are equal.
-- Assumes nothing.
use mathlib.Core.Path.{◌≡◌, sym, ap, ◌∙◌}
use mathlib.Core.List.{List}
use Prim.Native.Nat.{ℕ}
use Rattle.std.specs.Prelude.{Result, Ok, Err}
use Rattle.field.specs.Answer.{code_of}
use Rattle.field.specs.declared.refusal.Refusal.{Refusal}
use Rattle.field.proofs.Answers.{given-not-refused, refused-only, code-only}
use Rattle.field.proofs.Writing.{written_once}
use Rattle.headers.specs.Row.{l_of}
use Rattle.headers.specs.declared.row.Row.{Row}
use Rattle.elimination.specs.declared.verdict.Verdict.{Verdict}
use Rattle.elimination.proofs.Once.{means-once}
use Rattle.solver.specs.System.{Solves, system_of}

pub solves-once : (r : Row) (v : List ℕ) (k t : ℕ) (es xs a d o a₁ d₁ o₁ a₂ d₂ o₂ : List ℕ) (x y : Result Verdict Refusal)
    → Solves r v k t es xs a d o a₁ d₁ o₁ x → Solves r v k t es xs a d o a₂ d₂ o₂ y → (x ≡ y) × (a₁ ≡ a₂) × (d₁ ≡ d₂) × (o₁ ≡ o₂)
solves-once r v k t es xs a d o a₁ d₁ o₁ a₂ d₂ o₂ (Ok x) (Ok y) h g =
    let e = means-once (l_of r) t (system_of r v k t es xs) o o₁ o₂ x y h.1 g.1 in
    (ap Ok e.0, written_once h.2 g.2, written_once h.3 g.3, e.1)
solves-once r v k t es xs a d o a₁ d₁ o₁ a₂ d₂ o₂ (Ok x) (Err w) h g = absurd (given-not-refused tt (code_of w) (sym h.0 ∙ g.0))
solves-once r v k t es xs a d o a₁ d₁ o₁ a₂ d₂ o₂ (Err w) (Ok y) h g = absurd (given-not-refused tt (code_of w) (sym g.0 ∙ h.0))
solves-once r v k t es xs a d o a₁ d₁ o₁ a₂ d₂ o₂ (Err w) (Err u) h g =
    (ap Err (code-only w u (refused-only (code_of w) (code_of u) (sym h.0 ∙ g.0))), h.1 ∙ sym g.1, h.2 ∙ sym g.2, h.3 ∙ sym g.3)
