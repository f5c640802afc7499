-- The same ESI twice: with equal symbols the second changes nothing, with unequal ones the answer is a contradiction. It is so by the definition, whatever the
-- number of arrivals (`judged-..`), and so of calls.
-- Assumes nothing.
use mathlib.Core.Path.{◌≡◌, sym, ap, ◌∙◌}
use mathlib.Core.Logic.{◌≢◌}
use mathlib.Core.List.{List, [], ◌∷◌, ◌++◌}
use Prim.Native.Nat.{ℕ, ◌+◌, ◌*◌, ◌<◌}
use native.Mathlib.Decide.{dec_lt}
use native.Mathlib.Omega.{arith}
use lib.ListN.{length, get_or, length-append}
use lib.Seq.{get_or-append_seam, get_or-append-add}
use Rattle.std.specs.Prelude.{Ok}
use Rattle.headers.specs.declared.row.Row.{Row}
use Rattle.linear.specs.Bytes.{cell}
use Rattle.elimination.specs.declared.verdict.Verdict.{Verdict}
use Rattle.elimination.specs.declared.verdict.Verdict.TheVariants.{Solved, Contradiction}
use Rattle.promises.specs.Calls.{Call, Judged, Came, Among, sent, set_in}
use Rattle.promises.proofs.Among.{old-esi, old-symbol, among-more}
use Rattle.promises.proofs.Exactly.{call-judged, judged-contradiction-exactly}
use Rattle.promises.proofs.Order.{judged-order-free, judged-order-free-out}

-- ---- unequal

-- one ESI came with two symbols that differ
pub judged-twice-contradicts : {v : List ℕ} {r : Row} {k t : ℕ} {es xs o o₁ : List ℕ} {e : ℕ} {f g : ℕ → ℕ} → Came t es xs e f → Came t es xs e g
    → (b : ℕ) → b < t → f b ≢ g b
    → (w : Verdict) → Judged r v k t es xs o o₁ w → w ≡ Contradiction
judged-twice-contradicts {v} {r} {k} {t} {es} {xs} {o} {o₁} {e} {f} {g} x y b l differ w c =
    (judged-contradiction-exactly w c).1 (λ C h. differ
    (x.symbol b l ∙ sym (h.yields.arrival x.place x.below b l) ∙ ap (λ (n : ℕ). sent v r k t C n b) (sym x.esi ∙ y.esi)
    ∙ h.yields.arrival y.place y.below b l ∙ sym (y.symbol b l)))

pub twice-contradicts : {v : List ℕ} {r : Row} {k t : ℕ} {es xs o o₁ : List ℕ} {e : ℕ} {f g : ℕ → ℕ} → Came t es xs e f → Came t es xs e g
    → (b : ℕ) → b < t → f b ≢ g b
    → (w : Verdict) → Call r v k t es xs o o₁ (Ok w) → w ≡ Contradiction
twice-contradicts x y b l differ w c = judged-twice-contradicts x y b l differ w (call-judged c)

-- ---- equal

-- arrivals es, xs, and e with the symbol s behind them
module _ (t e : ℕ) (es xs s : List ℕ) (all : length xs ≡ length es * t) where
  new-symbol : (b : ℕ) → cell t (xs ++ s) (length es) b ≡ get_or s b 0
  new-symbol b = ap (λ (n : ℕ). get_or (xs ++ s) (n + b) 0) (sym all) ∙ get_or-append-add xs s b 0

  -- if e came with s before, there is nothing new
  none-new : Came t es xs e (λ b. get_or s b 0) → Among t (es ++ (e ∷ [])) (xs ++ s) es xs
  none-new x = record { each = λ i h. go i h (dec_lt i (length es)) }
    where
      go : (i : ℕ) → i < length (es ++ (e ∷ [])) → Dec (i < length es) → Came t es xs (get_or (es ++ (e ∷ [])) i 0) (cell t (xs ++ s) i)
      go i h (yes l) = record { place = i; below = l; esi = old-esi t es xs (e ∷ []) s all i l; symbol = λ b q. old-symbol t es xs (e ∷ []) s all i b l q }
      go i h (no l) =
          let q : i ≡ length es = omega (arith, length-append es (e ∷ [])) in
          record {
            place = x.place;
            below = x.below;
            esi = ap (λ (n : ℕ). get_or (es ++ (e ∷ [])) n 0) q ∙ get_or-append_seam es e [] 0 ∙ x.esi;
            symbol = λ b z. ap (λ (n : ℕ). cell t (xs ++ s) n b) q ∙ new-symbol b ∙ x.symbol b z;
          }

-- e came with the symbol s, and comes once more with it (at another place than the end it is `order-free` that says so)
module _ {v : List ℕ} {r : Row} {k t : ℕ} {es xs o o₁ p p₁ : List ℕ} (e : ℕ) (s : List ℕ) (came : Came t es xs e (λ b. get_or s b 0)) where
  -- the verdict is the same, with its shortfall, and so is the set
  pub judged-repeat-changes-nothing : (w u : Verdict) → Judged r v k t es xs o o₁ w → Judged r v k t (es ++ (e ∷ [])) (xs ++ s) p p₁ u
      → (w ≡ u) × (w ≡ Solved → set_in r t o₁ ≡ set_in r t p₁)
  judged-repeat-changes-nothing w u c = judged-order-free (among-more t es xs (e ∷ []) s c.receivable.all)
      (none-new t e es xs s c.receivable.all came) w u c

  -- and so is the whole out store, if it was the same before
  pub judged-repeat-changes-no-octet : o ≡ p → (w u : Verdict) → Judged r v k t es xs o o₁ w → Judged r v k t (es ++ (e ∷ [])) (xs ++ s) p p₁ u → o₁ ≡ p₁
  judged-repeat-changes-no-octet q w u c = judged-order-free-out (among-more t es xs (e ∷ []) s c.receivable.all)
      (none-new t e es xs s c.receivable.all came) q w u c

  -- ---- of two calls

  pub repeat-changes-nothing : (w u : Verdict) → Call r v k t es xs o o₁ (Ok w) → Call r v k t (es ++ (e ∷ [])) (xs ++ s) p p₁ (Ok u)
      → (w ≡ u) × (w ≡ Solved → set_in r t o₁ ≡ set_in r t p₁)
  repeat-changes-nothing w u c d = judged-repeat-changes-nothing w u (call-judged c) (call-judged d)

  pub repeat-changes-no-octet : o ≡ p → (w u : Verdict) → Call r v k t es xs o o₁ (Ok w) → Call r v k t (es ++ (e ∷ [])) (xs ++ s) p p₁ (Ok u) → o₁ ≡ p₁
  repeat-changes-no-octet q w u c d = judged-repeat-changes-no-octet q w u (call-judged c) (call-judged d)
