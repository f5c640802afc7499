-- Symbols that meet as many held equations as there are columns are the single set that fits what the stores hold.
-- Assumes nothing.
use mathlib.Core.Path.{◌≡◌, refl, ap, ◌∙◌}
use mathlib.Core.List.{List}
use Prim.Native.Nat.{ℕ, ◌+◌, ◌-◌, ◌*◌, ◌≤◌, ◌<◌}
use native.Mathlib.Omega.{arith}
use lib.ListN.{length, get_or}
use Rattle.field.specs.Runs.{FirstOther}
use Rattle.linear.specs.Bytes.{Bytes}
use Rattle.linear.specs.Back.{Brought, MetFrom}
use Rattle.linear.specs.Rows.{RowAdded, OnlyBelow}
use Rattle.linear.specs.Elimination.{Stepped}
use Rattle.linear.proofs.Back.{brought-past, brought-row, met-fits}
use Rattle.linear.proofs.Rows.{only-refl}
use Rattle.linear.proofs.Finish.{stepped-solved, front-block, front_fits}
use Rattle.elimination.specs.Steps.{column}
use Rattle.elimination.specs.Settling.{Settles}

-- row q, which begins at q * L in its store, is 0 from column n on up to place x
pub brought-on : {L T n q p from x : ℕ} (a d o o₁ : List ℕ) → from ≡ q * L + n → FirstOther a from (q * L + L) x → Brought L T n q p a d o o₁
    → Brought L T (x - q * L) q p a d o o₁
brought-on {L} {q = q} a d o o₁ e f s =
    brought-past a d o o₁ (let h = f.least in omega arith) (λ c l h. f.zeros (q * L + c) (omega arith) (omega arith)) s

-- and there it has the next entry
pub brought-at : {L T q p x f : ℕ} (a d o : List ℕ) {o₁ o₂ : List ℕ} → q * L + p < x → f ≡ get_or a x 0 → RowAdded T p (x - q * L) f o₁ o₂
    → Brought L T (x - q * L) q p a d o o₁ → Brought L T (x - q * L + 1) q p a d o o₂
brought-at {L} {q = q} {x = x} a d o h e u s =
    let i : x ≡ q * L + (x - q * L) = omega arith in
    brought-row a d o (omega arith) (e ∙ ap (λ (z : ℕ). get_or a z 0) i) u s

pub settles : {L T r : ℕ} (ps a d o o₁ : List ℕ) → L ≤ r → Bytes o₁ → L * T ≤ length o → OnlyBelow (L * T) o o₁
    → (Stepped L r (column ps) a d → MetFrom L T 0 r a d o₁) → Settles L T r ps a d o o₁
settles {L} {T} ps a d o o₁ full bo long past met = record {
  past = past;
  short = λ h. absurd (omega arith);
  solved = λ h pos s S small holds.
      stepped-solved s holds _ small pos h (front-block L T o₁ bo (omega (arith, past.size))) (front_fits o₁ (met-fits (met s)));
}

-- nothing is done
pub settles-none : {L T r : ℕ} (ps a d o : List ℕ) → r < L → Settles L T r ps a d o o
settles-none ps a d o h = record { past = only-refl; short = λ _. refl; solved = λ l. absurd (omega arith) }
