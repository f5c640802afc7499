-- If the arrivals come from one set that meets the constraints, the answer is never a contradiction, and solved gives that set: by the definition, whatever
-- the number of arrivals (`judged-..`), and so of a call.
-- Assumes nothing.
use mathlib.Core.Path.{◌≡◌, sym, ap, ◌∙◌}
use mathlib.Core.Logic.{◌≢◌}
use mathlib.Core.List.{List}
use Prim.Native.Nat.{ℕ, ◌<◌}
use native.Mathlib.Nat.{zero-add}
use lib.ListN.{length, get_or}
use Rattle.std.specs.Prelude.{Ok}
use Rattle.headers.specs.Row.{l_of}
use Rattle.headers.specs.declared.row.Row.{Row}
use Rattle.linear.specs.Bytes.{Block, FitsBytes, cell}
use Rattle.encoding.specs.Encoded.{Encodes}
use Rattle.elimination.specs.declared.verdict.Verdict.{Verdict}
use Rattle.elimination.specs.declared.verdict.Verdict.TheVariants.{Solved, Contradiction}
use Rattle.solver.specs.System.{system_of}
use Rattle.promises.specs.Calls.{Call, Judged, Meets, Fitting, Encoding, sent, set_in}
use Rattle.promises.proofs.Fitting.{fits-fitting}
use Rattle.promises.proofs.Exactly.{call-judged, judged-solved-single, judged-contradiction-exactly}

-- what a call of `encode` leaves is what the sender of C sends
pub encodes-sent : {v : List ℕ} {r : Row} {k t e : ℕ} {C ys zs : List ℕ} → Encodes v r k t e C ys zs (Ok tt) → (b : ℕ) → b < t
    → get_or zs b 0 ≡ sent v r k t C e b
encodes-sent {zs = zs} n b l = ap (λ (x : ℕ). get_or zs x 0) (sym (zero-add b)) ∙ n.memory.part b l

-- a set that meets the constraints fits the arrivals that `encode` made from it
pub sent-fitting : {v : List ℕ} {r : Row} {k t : ℕ} {es xs C : List ℕ} → Block (l_of r) t C → Meets v r k t C
    → ((i : ℕ) → i < length es → Encoding v r k t (get_or es i 0) C (cell t xs i))
    → Fitting v r k t es xs C
sent-fitting b m s = record { block = b; meets = m; yields = record { arrival = λ i h b l. sym ((s i h).front b l ∙ encodes-sent (s i h).contract b l) } }

module _ {v : List ℕ} {r : Row} {k t : ℕ} {es xs o o₁ C : List ℕ} where
  -- never a contradiction where a set fits
  pub judged-never-contradiction : Fitting v r k t es xs C → (w : Verdict) → Judged r v k t es xs o o₁ w → w ≢ Contradiction
  judged-never-contradiction f w c e = (judged-contradiction-exactly w c).0 e C f

  -- and solved gives no other set
  pub judged-solved-gives : Fitting v r k t es xs C → Judged r v k t es xs o o₁ Solved → set_in r t o₁ ≡ C
  judged-solved-gives f c = sym ((judged-solved-single c).only C f)

  -- the same, of a set that fits the system of the call
  pub judged-fits-never-contradiction : Block (l_of r) t C → FitsBytes (l_of r) t (system_of r v k t es xs) C → (w : Verdict) → Judged r v k t es xs o o₁ w
      → w ≢ Contradiction
  judged-fits-never-contradiction b f = judged-never-contradiction (fits-fitting v r k t es xs C b f)

  -- the same, of arrivals that `encode` made from a set that meets the constraints
  pub judged-sent-never-contradiction : Block (l_of r) t C → Meets v r k t C → ((i : ℕ) → i < length es → Encoding v r k t (get_or es i 0) C (cell t xs i))
      → (w : Verdict) → Judged r v k t es xs o o₁ w → w ≢ Contradiction
  judged-sent-never-contradiction b m s = judged-never-contradiction (sent-fitting b m s)

  -- ---- of a call

  pub never-contradiction : Fitting v r k t es xs C → (w : Verdict) → Call r v k t es xs o o₁ (Ok w) → w ≢ Contradiction
  never-contradiction f w c = judged-never-contradiction f w (call-judged c)

  pub solved-gives : Fitting v r k t es xs C → Call r v k t es xs o o₁ (Ok Solved) → set_in r t o₁ ≡ C
  solved-gives f c = judged-solved-gives f (call-judged c)

  pub fits-never-contradiction : Block (l_of r) t C → FitsBytes (l_of r) t (system_of r v k t es xs) C → (w : Verdict) → Call r v k t es xs o o₁ (Ok w)
      → w ≢ Contradiction
  fits-never-contradiction b f w c = judged-fits-never-contradiction b f w (call-judged c)

  pub sent-never-contradiction : Block (l_of r) t C → Meets v r k t C → ((i : ℕ) → i < length es → Encoding v r k t (get_or es i 0) C (cell t xs i))
      → (w : Verdict) → Call r v k t es xs o o₁ (Ok w) → w ≢ Contradiction
  sent-never-contradiction b m s w c = judged-sent-never-contradiction b m s w (call-judged c)
