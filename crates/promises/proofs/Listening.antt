-- A solved block goes on listening: what comes is compared with the encoding of its ESI from the solved set, and that tells what would be answered with it, by
-- the definition, however much has come (`judged-..`), and so by `solve`.
-- Assumes nothing.
use mathlib.Core.Path.{◌≡◌, sym, ap, ◌∙◌, subst}
use mathlib.Core.Logic.{◌⊎◌, inl, inr, ◌≢◌}
use mathlib.Core.List.{List}
use Prim.Native.Nat.{ℕ, ◌<◌}
use lib.ListN.{length, get_or}
use Rattle.std.specs.Prelude.{Ok}
use Rattle.headers.specs.declared.row.Row.{Row}
use Rattle.linear.specs.Bytes.{cell}
use Rattle.encoding.specs.Encoded.{Encodes}
use Rattle.elimination.specs.declared.verdict.Verdict.{Verdict}
use Rattle.elimination.specs.declared.verdict.Verdict.TheVariants.{Solved, Contradiction}
use Rattle.promises.specs.Calls.{Call, Judged, Came, Among, Fitting, Encoding, sent, set_in}
use Rattle.promises.proofs.Exactly.{call-judged, judged-solved-single}
use Rattle.promises.proofs.Growth.{judged-solved-then}
use Rattle.promises.proofs.Never.{encodes-sent, judged-never-contradiction}
use Rattle.promises.proofs.Reencoding.{judged-reencodes, sent-set}

-- arrival i of fs and ys is one of es and xs, or the encoding of its ESI from the intermediates C
abbrev pub Agrees : List ℕ → Row → (k t : ℕ) → (es xs fs ys C : List ℕ) → ℕ → Type 0
Agrees v r k t es xs fs ys C i = Came t es xs (get_or fs i 0) (cell t ys i) ⊎ Encoding v r k t (get_or fs i 0) C (cell t ys i)

-- Solved with es and xs; later fs and ys have come, those among them. `encode` is called with intermediates C that begin with the solved set.
module _ {v : List ℕ} {r : Row} {k t : ℕ} {es xs fs ys o o₁ : List ℕ} (C : List ℕ) (m : Among t es xs fs ys)
    (c : Judged r v k t es xs o o₁ Solved) (same : set_in r t C ≡ set_in r t o₁) where
  agrees : (i : ℕ) → Agrees v r k t es xs fs ys C i → (b : ℕ) → b < t → sent v r k t (set_in r t o₁) (get_or fs i 0) b ≡ cell t ys i b
  agrees i (inl x) b l =
      ap (λ (e : ℕ). sent v r k t (set_in r t o₁) e b) x.esi ∙ (judged-solved-single c).fits.yields.arrival x.place x.below b l ∙ sym (x.symbol b l)
  agrees i (inr n) b l = sym (n.front b l ∙ encodes-sent n.contract b l ∙ sent-set v r k t C (set_in r t o₁) (get_or fs i 0) b same l)

  still-fits : ((i : ℕ) → i < length fs → Agrees v r k t es xs fs ys C i) → Fitting v r k t fs ys (set_in r t o₁)
  still-fits a =
      let f : Fitting v r k t es xs (set_in r t o₁) = (judged-solved-single c).fits in
      record { block = f.block; meets = f.meets; yields = record { arrival = λ i h. agrees i (a i h) } }

  -- all that came since is equal: solved as before, with the same bytes
  pub judged-equal-stays : {p p₁ : List ℕ} → ((i : ℕ) → i < length fs → Agrees v r k t es xs fs ys C i) → (w : Verdict) → Judged r v k t fs ys p p₁ w
      → (w ≡ Solved) × (set_in r t p₁ ≡ set_in r t o₁)
  judged-equal-stays {p} {p₁} a w d = go (judged-solved-then m c w d)
    where
      go : (((w ≡ Solved) × (set_in r t p₁ ≡ set_in r t o₁)) ⊎ (w ≡ Contradiction)) → (w ≡ Solved) × (set_in r t p₁ ≡ set_in r t o₁)
      go (inl s) = s
      go (inr e) = absurd (judged-never-contradiction (still-fits a) w d e)

  -- one of them is not: a contradiction
  pub judged-unequal-contradicts : {p p₁ : List ℕ} {e b : ℕ} {f : ℕ → ℕ} {us zs : List ℕ} → Came t fs ys e f → Encodes v r k t e C us zs (Ok tt) → b < t
      → get_or zs b 0 ≢ f b → (w : Verdict) → Judged r v k t fs ys p p₁ w → w ≡ Contradiction
  judged-unequal-contradicts {p} {p₁} {e} {b} {f} {us} {zs} x n l differ w d = go (judged-solved-then m c w d)
    where
      go : (((w ≡ Solved) × (set_in r t p₁ ≡ set_in r t o₁)) ⊎ (w ≡ Contradiction)) → w ≡ Contradiction
      go (inl s) = absurd (differ (judged-reencodes (subst (λ (u : Verdict). Judged r v k t fs ys p p₁ u) s.0 d) (same ∙ sym s.1) x n b l))
      go (inr e) = e

-- ---- of two calls

module _ {v : List ℕ} {r : Row} {k t : ℕ} {es xs fs ys o o₁ : List ℕ} (C : List ℕ) (m : Among t es xs fs ys)
    (c : Call r v k t es xs o o₁ (Ok Solved)) (same : set_in r t C ≡ set_in r t o₁) where
  pub equal-stays : {p p₁ : List ℕ} → ((i : ℕ) → i < length fs → Agrees v r k t es xs fs ys C i) → (w : Verdict) → Call r v k t fs ys p p₁ (Ok w)
      → (w ≡ Solved) × (set_in r t p₁ ≡ set_in r t o₁)
  equal-stays a w d = judged-equal-stays C m (call-judged c) same a w (call-judged d)

  pub unequal-contradicts : {p p₁ : List ℕ} {e b : ℕ} {f : ℕ → ℕ} {us zs : List ℕ} → Came t fs ys e f → Encodes v r k t e C us zs (Ok tt) → b < t
      → get_or zs b 0 ≢ f b → (w : Verdict) → Call r v k t fs ys p p₁ (Ok w) → w ≡ Contradiction
  unequal-contradicts x n l differ w d = judged-unequal-contradicts C m (call-judged c) same x n l differ w (call-judged d)
