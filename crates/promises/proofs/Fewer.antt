-- Fewer arrivals than source symbols are never solved, and no arrivals are open: by the definition (`judged-..`), and so of a call.
-- Assumes nothing.
use mathlib.Core.Path.{◌≡◌, refl, sym, ap, ◌∙◌, subst}
use mathlib.Core.Logic.{◌≢◌}
use mathlib.Core.List.{List, []}
use Prim.Native.Nat.{ℕ, ◌+◌, ◌*◌, ◌≤◌, ◌<◌}
use native.Mathlib.Decide.{dec_lt}
use native.Mathlib.Omega.{arith}
use lib.ListN.{length, get_or, replicate, length-replicate, get_or-replicate, get_or-eq_default}
use Rattle.std.specs.Prelude.{Ok}
use Rattle.field.specs.Octet.{times}
use Rattle.field.proofs.Laws.{times_zero}
use Rattle.field.proofs.Sums.{sum-zero}
use Rattle.headers.specs.Row.{l_of}
use Rattle.headers.specs.declared.row.Row.{Row}
use Rattle.linear.specs.Octets.{octets}
use Rattle.linear.proofs.Independent.{chosen-once}
use Rattle.linear.proofs.Kernel.{pigeon}
use Rattle.encoding.specs.Encoded.{combined}
use Rattle.elimination.specs.declared.verdict.Verdict.{Verdict}
use Rattle.elimination.specs.declared.verdict.Verdict.TheVariants.{Solved, Contradiction, Open}
use Rattle.solver.specs.System.{equations}
use Rattle.promises.specs.Calls.{Call, Judged, Fitting, MostRows}
use Rattle.promises.proofs.Exactly.{call-judged, judged-contradiction-none, judged-solved-rows}

-- independent rows are at most as many as there are rows
most-rows-few : (v : List ℕ) (r : Row) (k : ℕ) (es : List ℕ) (n : ℕ) → MostRows v r k es n → n ≤ equations r k (length es)
most-rows-few v r k es n m = pigeon octets n (equations r k (length es)) m.some.place m.some.below (chosen-once octets m.some)

module _ {v : List ℕ} {r : Row} {k t : ℕ} {es xs o o₁ : List ℕ} where
  -- solved takes K arrivals at least: with fewer there are fewer equations than symbols
  pub judged-solved-takes : Judged r v k t es xs o o₁ Solved → k ≤ length es
  judged-solved-takes c =
      let h : l_of r ≤ equations r k (length es) = most-rows-few v r k es (l_of r) (judged-solved-rows c) in
      omega (arith, c.receivable.k-high)

  -- so fewer are never solved
  pub judged-fewer-never-solved : length es < k → (w : Verdict) → Judged r v k t es xs o o₁ w → w ≢ Solved
  judged-fewer-never-solved h w c e = let n : k ≤ length es = judged-solved-takes (subst (λ (u : Verdict). Judged r v k t es xs o o₁ u) e c) in omega arith

  -- open with fewer than K arrivals lacks at least those that are missing
  pub judged-open-takes : {s : ℕ} → Judged r v k t es xs o o₁ (Open s) → k ≤ s + length es
  judged-open-takes {s} c =
      let high : k ≤ r.kp = c.receivable.k-high in
      let p = c.means.1.lacks in
      let h : p.rank ≤ equations r k (length es) = most-rows-few v r k es p.rank p.most in
      omega (arith, p.less)

  -- ---- of a call

  pub solved-takes : Call r v k t es xs o o₁ (Ok Solved) → k ≤ length es
  solved-takes c = judged-solved-takes (call-judged c)

  pub fewer-never-solved : length es < k → (w : Verdict) → Call r v k t es xs o o₁ (Ok w) → w ≢ Solved
  fewer-never-solved h w c = judged-fewer-never-solved h w (call-judged c)

  pub open-takes : {s : ℕ} → Call r v k t es xs o o₁ (Ok (Open s)) → k ≤ s + length es
  open-takes c = judged-open-takes (call-judged c)

-- ---- no arrivals

abbrev nothing : ℕ → List ℕ
nothing n = replicate n 0

zeros : (n i : ℕ) → get_or (nothing n) i 0 ≡ 0
zeros n i = go (dec_lt i n)
  where
    go : Dec (i < n) → get_or (nothing n) i 0 ≡ 0
    go (yes h) = get_or-replicate n i 0 0 h
    go (no h) = get_or-eq_default (nothing n) 0 {n = i} (let e : length (nothing n) ≡ n = length-replicate n 0 in omega arith)

-- the set of zeros gives 0 for every row
zero-sum : (n t l b : ℕ) (f : ℕ → ℕ) → combined t (nothing n) l f b ≡ 0
zero-sum n t l b f = sum-zero l (λ c h. ap (times (f c)) (zeros n (c * t + b)) ∙ times_zero (f c))

-- it fits where nothing came
zero-fits : (v : List ℕ) (r : Row) (k t : ℕ) (xs : List ℕ) → Fitting v r k t [] xs (nothing (l_of r * t))
zero-fits v r k t xs = record {
  block = record { size = length-replicate (l_of r * t) 0; bytes = λ i. subst (λ (x : ℕ). x < 256) (sym (zeros (l_of r * t) i)) (omega arith) };
  meets = record {
    ldpc = λ i h b l. zero-sum (l_of r * t) t (l_of r) b _;
    hdpc = λ i h b l. zero-sum (l_of r * t) t (l_of r) b _;
    padding = λ x p q b l. zero-sum (l_of r * t) t (l_of r) b _;
  };
  yields = record { arrival = λ i h. absurd (omega arith) };
}

-- no arrivals give open, and K more at least are lacking
pub judged-none-open : {v : List ℕ} {r : Row} {k t : ℕ} {xs o o₁ : List ℕ} (w : Verdict) → Judged r v k t [] xs o o₁ w → (s : ℕ) × (w ≡ Open s) × (k ≤ s)
judged-none-open Solved c = absurd (let h = judged-solved-takes c in omega (arith, c.receivable.k-low))
judged-none-open {v} {r} {k} {t} {xs} Contradiction c = absurd (judged-contradiction-none c (nothing (l_of r * t)) (zero-fits v r k t xs))
judged-none-open (Open s) c = (s, refl, (let h = judged-open-takes c in omega arith))

pub none_open : {v : List ℕ} {r : Row} {k t : ℕ} {xs o o₁ : List ℕ} (w : Verdict) → Call r v k t [] xs o o₁ (Ok w) → (s : ℕ) × (w ≡ Open s) × (k ≤ s)
none_open w c = judged-none-open w (call-judged c)
