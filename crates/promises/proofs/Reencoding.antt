-- A solved set re-encodes every arrival, and for any other ESI gives what every set that fits gives: by the definition, whatever the number of arrivals
-- (`judged-..`), and so of a call.
-- Assumes nothing.
use mathlib.Core.Path.{◌≡◌, refl, sym, ap, ◌∙◌, subst}
use mathlib.Core.List.{List}
use Prim.Native.Nat.{ℕ, ◌+◌, ◌*◌, ◌≤◌, ◌<◌}
use native.Mathlib.Omega.{arith}
use lib.ListN.{length, get_or}
use lib.Seq.{get_or-take}
use Rattle.std.specs.Prelude.{Result, Ok}
use Rattle.field.specs.declared.refusal.Refusal.{Refusal}
use Rattle.field.specs.Octet.{times}
use Rattle.field.proofs.Answers.{outcome-only}
use Rattle.field.proofs.Sums.{sum_same}
use Rattle.headers.specs.Row.{l_of}
use Rattle.headers.specs.Shift.{shifted}
use Rattle.headers.specs.declared.row.Row.{Row}
use Rattle.constraints.specs.Encoding.{enc_of}
use Rattle.linear.specs.Bytes.{cell, Block}
use Rattle.linear.proofs.Bytes.{cell-lt}
use Rattle.encoding.specs.Encoded.{Encodes}
use Rattle.encoding.proofs.Allowed.{Allowed, encodes-done}
use Rattle.elimination.specs.declared.verdict.Verdict.{Verdict}
use Rattle.elimination.specs.declared.verdict.Verdict.TheVariants.{Solved}
use Rattle.promises.specs.Calls.{Call, Judged, Came, Meets, Fitting, Encoding, sent, set_in}
use Rattle.promises.proofs.Exactly.{call-judged, judged-solved-single}
use Rattle.promises.proofs.Never.{encodes-sent, sent-fitting}

-- only the first L·T octets of the intermediates are read
pub sent-set : (v : List ℕ) (r : Row) (k t : ℕ) (C D : List ℕ) (e b : ℕ) → set_in r t C ≡ D → b < t → sent v r k t C e b ≡ sent v r k t D e b
sent-set v r k t C D e b q l = sum_same (l_of r) (λ c h. ap (times (enc_of v r (shifted e k r.kp) c)) (at (c * t + b) (cell-lt t (l_of r) c b h l)))
  where
    at : (x : ℕ) → x < l_of r * t → get_or C x 0 ≡ get_or D x 0
    at x h = sym (get_or-take (l_of r * t) C x 0 h) ∙ ap (λ (z : List ℕ). get_or z x 0) q

-- Solved, and `encode` is called with intermediates C that begin with the solved set, as the out store itself does.
module _ {v : List ℕ} {r : Row} {k t : ℕ} {es xs o o₁ C : List ℕ} (c : Judged r v k t es xs o o₁ Solved) (same : set_in r t C ≡ set_in r t o₁) where
  -- for an ESI that came, a source symbol or another, it writes the symbol that came
  pub judged-reencodes : {e : ℕ} {f : ℕ → ℕ} {ys zs : List ℕ} → Came t es xs e f → Encodes v r k t e C ys zs (Ok tt) → (b : ℕ) → b < t → get_or zs b 0 ≡ f b
  judged-reencodes {e} x n b l =
      encodes-sent n b l ∙ sent-set v r k t C (set_in r t o₁) e b same l ∙ ap (λ (y : ℕ). sent v r k t (set_in r t o₁) y b) x.esi
      ∙ (judged-solved-single c).fits.yields.arrival x.place x.below b l ∙ sym (x.symbol b l)

  -- for any ESI it writes what each set that fits yields
  pub judged-rebuilds : {e : ℕ} {D ys zs : List ℕ} → Fitting v r k t es xs D → Encodes v r k t e C ys zs (Ok tt)
      → (b : ℕ) → b < t → get_or zs b 0 ≡ sent v r k t D e b
  judged-rebuilds {e} {D} f n b l = encodes-sent n b l ∙ sent-set v r k t C D e b (same ∙ sym ((judged-solved-single c).only D f)) l

  -- so it writes what the sender's `encode` writes from the sender's set D
  pub judged-rebuilds-sent : {e : ℕ} {D ys zs ys' zs' : List ℕ} → Fitting v r k t es xs D → Encodes v r k t e C ys zs (Ok tt)
      → Encodes v r k t e D ys' zs' (Ok tt) → (b : ℕ) → b < t → get_or zs b 0 ≡ get_or zs' b 0
  judged-rebuilds-sent f n m b l = judged-rebuilds f n b l ∙ sym (encodes-sent m b l)

-- Nothing is invented: if `encode` made every arrival from one set D that meets the constraints, then out of a solved store it makes, for each
-- ESI and so for every source symbol, the symbol that it makes from D.
pub judged-recovers : {v : List ℕ} {r : Row} {k t e : ℕ} {es xs o o₁ D ys zs ys' zs' : List ℕ} → Block (l_of r) t D → Meets v r k t D
    → ((i : ℕ) → i < length es → Encoding v r k t (get_or es i 0) D (cell t xs i)) → Judged r v k t es xs o o₁ Solved
    → Encodes v r k t e o₁ ys zs (Ok tt) → Encodes v r k t e D ys' zs' (Ok tt) → (b : ℕ) → b < t → get_or zs b 0 ≡ get_or zs' b 0
judged-recovers block meets made c n m = judged-rebuilds-sent c refl (sent-fitting block meets made) n m

-- ---- and such a call is not refused

-- for any ESI below 2^24, with intermediates that have room for the set and an out store that has room for a symbol
pub judged-reencoding-done : {v : List ℕ} {r : Row} {k t : ℕ} {es xs o o₁ C : List ℕ} {e : ℕ} {ys zs : List ℕ} {a : Result (Unit {0}) Refusal} (w : Verdict)
    → Judged r v k t es xs o o₁ w
    → e < 16777216 → l_of r * t ≤ length C → t ≤ length ys → Encodes v r k t e C ys zs a → a ≡ Ok tt
judged-reencoding-done {v} {r} {k} {t} {C = C} {e = e} {ys = ys} {a = a} w c sent enough room n =
    let h = c.receivable in
    let may : Allowed r (length v) k t e (length C) (length ys) = record {
      rules = h.rules;
      all = h.tables;
      k-low = h.k-low;
      k-high = h.k-high;
      esi-24 = sent;
      some = λ q. absurd (omega (arith, h.t-low));
      enough = enough;
      fits = room;
    } in
    outcome-only a (Ok tt) (encodes-done may n)

-- and that of an arrival is below 2^24
pub judged-came-small : {v : List ℕ} {r : Row} {k t : ℕ} {es xs o o₁ : List ℕ} {e : ℕ} {f : ℕ → ℕ} (w : Verdict) → Judged r v k t es xs o o₁ w
    → Came t es xs e f → e < 16777216
judged-came-small {es = es} w c x = subst (λ (n : ℕ). n < 16777216) (sym x.esi) (c.receivable.ids x.place x.below)

-- ---- of a call

module _ {v : List ℕ} {r : Row} {k t : ℕ} {es xs o o₁ C : List ℕ} (c : Call r v k t es xs o o₁ (Ok Solved)) (same : set_in r t C ≡ set_in r t o₁) where
  pub reencodes : {e : ℕ} {f : ℕ → ℕ} {ys zs : List ℕ} → Came t es xs e f → Encodes v r k t e C ys zs (Ok tt) → (b : ℕ) → b < t → get_or zs b 0 ≡ f b
  reencodes x n b l = judged-reencodes (call-judged c) same x n b l

  pub rebuilds : {e : ℕ} {D ys zs : List ℕ} → Fitting v r k t es xs D → Encodes v r k t e C ys zs (Ok tt) → (b : ℕ) → b < t → get_or zs b 0 ≡ sent v r k t D e b
  rebuilds f n b l = judged-rebuilds (call-judged c) same f n b l

  pub rebuilds-sent : {e : ℕ} {D ys zs ys' zs' : List ℕ} → Fitting v r k t es xs D → Encodes v r k t e C ys zs (Ok tt) → Encodes v r k t e D ys' zs' (Ok tt)
      → (b : ℕ) → b < t → get_or zs b 0 ≡ get_or zs' b 0
  rebuilds-sent f n m b l = judged-rebuilds-sent (call-judged c) same f n m b l

pub recovers : {v : List ℕ} {r : Row} {k t e : ℕ} {es xs o o₁ D ys zs ys' zs' : List ℕ} → Block (l_of r) t D → Meets v r k t D
    → ((i : ℕ) → i < length es → Encoding v r k t (get_or es i 0) D (cell t xs i)) → Call r v k t es xs o o₁ (Ok Solved)
    → Encodes v r k t e o₁ ys zs (Ok tt) → Encodes v r k t e D ys' zs' (Ok tt) → (b : ℕ) → b < t → get_or zs b 0 ≡ get_or zs' b 0
recovers block meets made c n m = judged-recovers block meets made (call-judged c) n m

pub reencoding-done : {v : List ℕ} {r : Row} {k t : ℕ} {es xs o o₁ C : List ℕ} {e : ℕ} {ys zs : List ℕ} {a : Result (Unit {0}) Refusal} (w : Verdict)
    → Call r v k t es xs o o₁ (Ok w)
    → e < 16777216 → l_of r * t ≤ length C → t ≤ length ys → Encodes v r k t e C ys zs a → a ≡ Ok tt
reencoding-done w c = judged-reencoding-done w (call-judged c)

pub came-small : {v : List ℕ} {r : Row} {k t : ℕ} {es xs o o₁ : List ℕ} {e : ℕ} {f : ℕ → ℕ} (w : Verdict) → Call r v k t es xs o o₁ (Ok w) → Came t es xs e f
    → e < 16777216
came-small w c = judged-came-small w (call-judged c)
