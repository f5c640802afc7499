-- Demand 3's three conditions, each in both directions, and the shortfall: of an answer by the definition, to any number of arrivals (`judged-..`), and so of
-- a call that is not refused.
-- Assumes nothing.
use mathlib.Core.Path.{◌≡◌, refl, sym, ◌∙◌, subst}
use mathlib.Core.Logic.{◌≢◌, ◌↔◌}
use mathlib.Core.List.{List}
use Prim.Native.Nat.{ℕ, ◌+◌, ◌*◌, ◌≤◌, ◌<◌}
use native.Mathlib.Omega.{arith}
use lib.ListN.{get_or}
use Rattle.std.specs.Prelude.{Ok}
use Rattle.field.proofs.Laws.{times-lt}
use Rattle.field.proofs.Sums.{sum_lt}
use Rattle.headers.specs.Row.{l_of}
use Rattle.headers.specs.declared.row.Row.{Row}
use Rattle.linear.specs.System.{System}
use Rattle.linear.specs.Octets.{octets}
use Rattle.linear.specs.Bytes.{OctetSymbols, cell, FitsBytes, SolvedBytes, OpenBytes, ShortfallBytes}
use Rattle.linear.proofs.AnswersBytes.{solved-bytes-lacks-nothing, open-bytes-lacks}
use Rattle.linear.proofs.Independent.{most-unique}
use Rattle.linear.proofs.Rows.{only-past}
use Rattle.elimination.specs.declared.verdict.Verdict.{Verdict}
use Rattle.elimination.specs.declared.verdict.Verdict.TheVariants.{Solved, Contradiction, Open}
use Rattle.solver.specs.Order.{Sendable}
use Rattle.solver.specs.System.{Admits, system_of}
use Rattle.solver.proofs.Admitted.{admits}
use Rattle.promises.specs.Calls.{Call, Judged, Fitting, Single, Several, MostRows, set_in}
use Rattle.promises.proofs.Fitting.{fitting-fits, fits-fitting}

-- ---- the three verdicts differ

contradiction-not-solved : Contradiction ≡ Solved → ⊥
contradiction-not-solved e = let z : ◌≡◌ {A = ℕ} 0 1 = cc in omega arith

pub open-not-solved : {s : ℕ} → Open s ≡ Solved → ⊥
open-not-solved e = let z : ◌≡◌ {A = ℕ} 0 1 = cc in omega arith

open-not-contradiction : {s : ℕ} → Open s ≡ Contradiction → ⊥
open-not-contradiction e = let z : ◌≡◌ {A = ℕ} 0 1 = cc in omega arith

single-not-several : {v : List ℕ} {r : Row} {k t : ℕ} {es xs C : List ℕ} → Single v r k t es xs C → Several v r k t es xs → ⊥
single-not-several a b = b.differ (a.only b.first b.first_fits ∙ sym (a.only b.second b.second_fits))

-- the symbols of a system that a set fits are of octets
pub fits-octets : {L T : ℕ} {S : System ℕ} {C : List ℕ} → FitsBytes L T S C → OctetSymbols T S
fits-octets {L} {T} {S} {C} f =
    record { below = λ i h b l. subst (λ (x : ℕ). x < 256) (f.meets i h b l) (sum_lt L (λ c _. times-lt (S.coef i c) (cell T C c b))) }

module _ {v : List ℕ} {r : Row} {k t : ℕ} {es xs o o₁ : List ℕ} where
  -- what is known of a call that was not refused
  pub accepted : (w : Verdict) (c : Call r v k t es xs o o₁ (Ok w))
      → Admits r v k t es xs c.rows c.values o
  accepted w c = admits r v k t es xs c.rows c.values o c.contract.0

  -- its row, tables, K and ESIs
  pub sound : (w : Verdict) → Call r v k t es xs o o₁ (Ok w) → Sendable r v k es
  sound w c = (accepted w c).fillable.sendable

  -- it answers by the definition
  pub call-judged : {w : Verdict} → Call r v k t es xs o o₁ (Ok w) → Judged r v k t es xs o o₁ w
  call-judged {w} c =
      let a = accepted w c in
      let s = sound w c in
      record {
        receivable = record {
          rules = s.rules;
          tables = s.tables;
          k-low = s.k-low;
          k-high = s.k-high;
          ids = s.ids;
          t-low = a.t-low;
          all = a.fillable.all;
        };
        room_out = a.room_out;
        means = c.contract.1;
      }

  -- ---- what each verdict says

  -- solved: the set in the out store is the only one that fits
  pub judged-solved-single : Judged r v k t es xs o o₁ Solved → Single v r k t es xs (set_in r t o₁)
  judged-solved-single c =
      let s : SolvedBytes (l_of r) t (system_of r v k t es xs) (set_in r t o₁) = c.means.0 in
      record {
        fits = fits-fitting v r k t es xs (set_in r t o₁) s.block s.fits;
        only = λ D f. s.only D f.block (fitting-fits v r k t es xs D f);
      }

  -- contradiction: no set fits
  pub judged-contradiction-none : Judged r v k t es xs o o₁ Contradiction → (C : List ℕ) → ¬ Fitting v r k t es xs C
  judged-contradiction-none c C f = c.means.0.none C f.block (fitting-fits v r k t es xs C f)

  -- open: sets fit that differ
  pub judged-open-several : {s : ℕ} → Judged r v k t es xs o o₁ (Open s) → Several v r k t es xs
  judged-open-several c =
      let p : OpenBytes (l_of r) t (system_of r v k t es xs) = c.means.0 in
      record {
        first = p.first;
        second = p.second;
        first_fits = fits-fitting v r k t es xs p.first p.first_block p.first_fits;
        second_fits = fits-fitting v r k t es xs p.second p.second_block p.second_fits;
        differ = p.differ;
      }

  -- ---- exactly when

  -- solved exactly when a single set fits
  pub judged-solved-exactly : (w : Verdict) → Judged r v k t es xs o o₁ w → (w ≡ Solved) ↔ ((C : List ℕ) × Single v r k t es xs C)
  judged-solved-exactly Solved c = (λ _. (set_in r t o₁, judged-solved-single c), λ _. refl)
  judged-solved-exactly Contradiction c = (λ e. absurd (contradiction-not-solved e), λ h. absurd (judged-contradiction-none c h.0 h.1.fits))
  judged-solved-exactly (Open s) c = (λ e. absurd (open-not-solved e), λ h. absurd (single-not-several h.1 (judged-open-several c)))

  -- contradiction exactly when none fits
  pub judged-contradiction-exactly : (w : Verdict) → Judged r v k t es xs o o₁ w → (w ≡ Contradiction) ↔ ((C : List ℕ) → ¬ Fitting v r k t es xs C)
  judged-contradiction-exactly Solved c = (λ e. absurd (contradiction-not-solved (sym e)), λ h. absurd (h (set_in r t o₁) (judged-solved-single c).fits))
  judged-contradiction-exactly Contradiction c = (λ _. judged-contradiction-none c, λ _. refl)
  judged-contradiction-exactly (Open s) c =
      (λ e. absurd (open-not-contradiction e), λ h. absurd (let p = judged-open-several c in h p.first p.first_fits))

  -- open exactly when sets fit that differ
  pub judged-open-exactly : (w : Verdict) → Judged r v k t es xs o o₁ w → ((s : ℕ) × (w ≡ Open s)) ↔ Several v r k t es xs
  judged-open-exactly Solved c = (λ h. absurd (open-not-solved (sym h.1)), λ h. absurd (single-not-several (judged-solved-single c) h))
  judged-open-exactly Contradiction c =
      (λ h. absurd (open-not-contradiction (sym h.1)), λ h. absurd (judged-contradiction-none c h.first h.first_fits))
  judged-open-exactly (Open s) c = (λ _. judged-open-several c, λ _. (s, refl))

  -- and open otherwise
  pub judged-open-otherwise : (w : Verdict) → Judged r v k t es xs o o₁ w → ((C : List ℕ) → ¬ Single v r k t es xs C)
      → ¬ ((C : List ℕ) → ¬ Fitting v r k t es xs C) → (s : ℕ) × (w ≡ Open s)
  judged-open-otherwise Solved c n m = absurd (n (set_in r t o₁) (judged-solved-single c))
  judged-open-otherwise Contradiction c n m = absurd (m (judged-contradiction-none c))
  judged-open-otherwise (Open s) c n m = (s, refl)

  -- solved leaves the out store past the set
  pub judged-solved-past : Judged r v k t es xs o o₁ Solved → (x : ℕ) → l_of r * t ≤ x → get_or o₁ x 0 ≡ get_or o x 0
  judged-solved-past c = only-past c.means.1

  -- and where it is not solved, the whole of it
  pub judged-unsolved-out : (w : Verdict) → Judged r v k t es xs o o₁ w → w ≢ Solved → o₁ ≡ o
  judged-unsolved-out Solved c n = absurd (n refl)
  judged-unsolved-out Contradiction c n = c.means.1
  judged-unsolved-out (Open s) c n = c.means.2

  -- ---- the shortfall

  -- L less the most rows that are independent: s and n make L exactly when n is the most
  pub judged-shortfall-exactly : {s : ℕ} → Judged r v k t es xs o o₁ (Open s) → (n : ℕ) → (s + n ≡ l_of r) ↔ MostRows v r k es n
  judged-shortfall-exactly {s} c n =
      let p : ShortfallBytes (l_of r) t (system_of r v k t es xs) s = c.means.1 in (
        λ e. subst (MostRows v r k es) (omega (arith, p.lacks.less)) p.lacks.most,
        λ m. let q : p.lacks.rank ≡ n = most-unique octets p.lacks.most m in omega (arith, p.lacks.less),
      )

  -- it is never 0
  pub judged-shortfall-positive : {s : ℕ} → Judged r v k t es xs o o₁ (Open s) → 0 < s
  judged-shortfall-positive {s} c =
      let p : OpenBytes (l_of r) t (system_of r v k t es xs) = c.means.0 in
      open-bytes-lacks c.receivable.t-low (fits-octets p.first_fits) p c.means.1

  -- solved lacks nothing
  pub judged-solved-shortfall : Judged r v k t es xs o o₁ Solved → ShortfallBytes (l_of r) t (system_of r v k t es xs) 0
  judged-solved-shortfall c =
      let s : SolvedBytes (l_of r) t (system_of r v k t es xs) (set_in r t o₁) = c.means.0 in
      solved-bytes-lacks-nothing c.receivable.t-low (fits-octets s.fits) s

  -- so L rows are independent
  pub judged-solved-rows : Judged r v k t es xs o o₁ Solved → MostRows v r k es (l_of r)
  judged-solved-rows c = let p = (judged-solved-shortfall c).lacks in subst (MostRows v r k es) (omega (arith, p.less)) p.most

  -- ---- of a call

  pub solved-single : Call r v k t es xs o o₁ (Ok Solved) → Single v r k t es xs (set_in r t o₁)
  solved-single c = judged-solved-single (call-judged c)

  pub contradiction-none : Call r v k t es xs o o₁ (Ok Contradiction) → (C : List ℕ) → ¬ Fitting v r k t es xs C
  contradiction-none c = judged-contradiction-none (call-judged c)

  pub open-several : {s : ℕ} → Call r v k t es xs o o₁ (Ok (Open s)) → Several v r k t es xs
  open-several c = judged-open-several (call-judged c)

  pub solved-exactly : (w : Verdict) → Call r v k t es xs o o₁ (Ok w) → (w ≡ Solved) ↔ ((C : List ℕ) × Single v r k t es xs C)
  solved-exactly w c = judged-solved-exactly w (call-judged c)

  pub contradiction-exactly : (w : Verdict) → Call r v k t es xs o o₁ (Ok w) → (w ≡ Contradiction) ↔ ((C : List ℕ) → ¬ Fitting v r k t es xs C)
  contradiction-exactly w c = judged-contradiction-exactly w (call-judged c)

  pub open-exactly : (w : Verdict) → Call r v k t es xs o o₁ (Ok w) → ((s : ℕ) × (w ≡ Open s)) ↔ Several v r k t es xs
  open-exactly w c = judged-open-exactly w (call-judged c)

  pub open-otherwise : (w : Verdict) → Call r v k t es xs o o₁ (Ok w) → ((C : List ℕ) → ¬ Single v r k t es xs C) → ¬ ((C : List ℕ) → ¬ Fitting v r k t es xs C)
      → (s : ℕ) × (w ≡ Open s)
  open-otherwise w c = judged-open-otherwise w (call-judged c)

  pub solved-past : Call r v k t es xs o o₁ (Ok Solved) → (x : ℕ) → l_of r * t ≤ x → get_or o₁ x 0 ≡ get_or o x 0
  solved-past c = judged-solved-past (call-judged c)

  pub unsolved-out : (w : Verdict) → Call r v k t es xs o o₁ (Ok w) → w ≢ Solved → o₁ ≡ o
  unsolved-out w c = judged-unsolved-out w (call-judged c)

  pub shortfall-exactly : {s : ℕ} → Call r v k t es xs o o₁ (Ok (Open s)) → (n : ℕ) → (s + n ≡ l_of r) ↔ MostRows v r k es n
  shortfall-exactly c = judged-shortfall-exactly (call-judged c)

  pub shortfall-positive : {s : ℕ} → Call r v k t es xs o o₁ (Ok (Open s)) → 0 < s
  shortfall-positive c = judged-shortfall-positive (call-judged c)

  pub solved-shortfall : Call r v k t es xs o o₁ (Ok Solved) → ShortfallBytes (l_of r) t (system_of r v k t es xs) 0
  solved-shortfall c = judged-solved-shortfall (call-judged c)

  pub solved-rows : Call r v k t es xs o o₁ (Ok Solved) → MostRows v r k es (l_of r)
  solved-rows c = judged-solved-rows (call-judged c)
