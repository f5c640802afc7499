-- What held equations say of every system that the stores hold: a contradiction as soon as a row of zeros comes with a symbol that is not 0, else
-- the shortfall by how many are held, and solved, with the set, or open.
-- Assumes nothing.
use mathlib.Core.Path.{◌≡◌, sym, ap, ◌∙◌}
use mathlib.Core.Logic.{◌≢◌, inl}
use mathlib.Core.List.{List}
use Prim.Native.Nat.{ℕ, zero, suc, ◌+◌, ◌-◌, ◌*◌, ◌≤◌, ◌<◌}
use native.Mathlib.Omega.{arith}
use native.Mathlib.Decide.{ℕ_discrete, dec_lt}
use lib.ListN.{length, take, get_or, get_or-eq_default}
use lib.Seq.{get_or-take, length-take-le, ext_get_or}
use Rattle.field.specs.Octet.{times}
use Rattle.field.proofs.Sums.{sum_same}
use Rattle.linear.specs.Index.{Col, cut}
use Rattle.linear.specs.Span.{lin, Within}
use Rattle.linear.specs.Independent.{Independent, MostIndependent}
use Rattle.linear.specs.Total.{delta}
use Rattle.linear.specs.System.{System, equation}
use Rattle.linear.specs.Octets.{octets, Octet, oct}
use Rattle.linear.specs.Bytes.{Bytes, cell, Block, stored_system, OctetSymbols, in_octets, symbols, FitsBytes, SolvedBytes, ContradictionBytes, OpenBytes, ShortfallBytes, AnswerBytes, contradicted-bytes, settled-bytes, left-open-bytes}
use Rattle.linear.specs.Rows.{OnlyBelow}
use Rattle.linear.specs.Elimination.{Holds, Stepped}
use Rattle.linear.proofs.Field.{zero-mul}
use Rattle.linear.proofs.Total.{total_ext, total-delta, delta-self, delta-other}
use Rattle.linear.proofs.Span.{span-pull}
use Rattle.linear.proofs.Independent.{most-of-span}
use Rattle.linear.proofs.System.{fits-follows, contradiction-follows, clash as row-clash}
use Rattle.linear.proofs.Octets.{oct-zero, oct-one, oct-once}
use Rattle.linear.proofs.Bytes.{cell-lt, contradiction-bytes, fits-of-bytes, bytes-of-fits}
use Rattle.linear.proofs.AnswersBytes.{answer-bytes, fits-single, shortfall-bytes-once, solved-bytes-once}
use Rattle.linear.proofs.Rows.{only-past}
use Rattle.linear.proofs.Elimination.{rank-at-most}
use Rattle.linear.proofs.Back.{held-fit}
open octets use {◌⊗◌, 𝟘}

infixl 70 ◌⊗◌
-- ---- a row of zeros whose symbol is not 0

pub clash : {M L T : ℕ} {S : System ℕ} {a d : List ℕ} (m t : ℕ) → Holds M L T S a d → Bytes d → m < M → t < T
    → ((c : ℕ) → c < L → cell L a m c ≡ 0) → cell T d m t ≢ 0 → ContradictionBytes L T S
clash {M} {L} {T} {S} {a} {d} m t h bd hm ht z nz = contradiction-bytes L T S
    (contradiction-follows octets L T h.to
    (row-clash octets L T m t hm ht (λ c l. ap oct (z c l) ∙ oct-zero) (λ e. nz (oct-once _ _ (bd _) (omega arith) (e ∙ sym oct-zero)))))

-- what fits the equations in the stores fits the system that they hold
pub held_fits : {M L T : ℕ} {S : System ℕ} {a d : List ℕ} (o : List ℕ) → Holds M L T S a d → OctetSymbols T S → FitsBytes L T (stored_system M L T a d) o
    → FitsBytes L T S o
held_fits {M} {L} {T} {S} {a} {d} o h small f = bytes-of-fits L T S small o (fits-follows octets L T h.back (fits-of-bytes L T (stored_system M L T a d) f))

-- and where none fits them, none fits it
pub held-denied : {M L T : ℕ} {S : System ℕ} {a d : List ℕ} → Holds M L T S a d → Bytes d → ContradictionBytes L T (stored_system M L T a d)
    → ContradictionBytes L T S
held-denied {M} {L} {T} {S} {a} {d} h bd c = record { none = λ C b f. c.none C b (fits C f) }
  where
    fits : (C : List ℕ) → FitsBytes L T S C → FitsBytes L T (stored_system M L T a d) C
    fits C f = bytes-of-fits L T (stored_system M L T a d) (record { below = λ i l t q. bd _ }) C (fits-follows octets L T h.to (fits-of-bytes L T S f))

-- ---- the shortfall: held rows are independent

module _ {L r : ℕ} {pivot : ℕ → ℕ} {a d : List ℕ} (s : Stepped L r pivot a d) where
  -- in the column of its pivot row k has 1, and those after it have 0
  free : Independent octets r (cut L (symbols L a))
  free = record { only_zero = λ b v i h. zeros b v (suc i) i (omega arith) h }
    where
      zeros : (b : ℕ → Octet) → ((c : Col L) → lin octets r b (cut L (symbols L a)) c ≡ 𝟘) → (n k : ℕ) → k < n → k < r → b k ≡ 𝟘
      zeros b v zero k h l = absurd (omega arith)
      zeros b v (suc n) k h l = last (zeros b v n)
        where
          last : ((j : ℕ) → j < n → j < r → b j ≡ 𝟘) → b k ≡ 𝟘
          last z = sym (total_ext octets r (λ i q. term i q (dec_lt i k) (ℕ_discrete i k)) ∙ total-delta octets r k b l) ∙ v (pivot k, s.column k l)
            where
              term : (i : ℕ) → i < r → Dec (i < k) → Dec (i ≡ k) → b i ⊗ oct (cell L a i (pivot k)) ≡ b i ⊗ delta octets i k
              term i q (yes x) e = ap (λ (y : Octet). y ⊗ oct (cell L a i (pivot k))) (z i (omega arith) q) ∙ zero-mul octets (oct (cell L a i (pivot k)))
                  ∙ sym (ap (λ (y : Octet). y ⊗ delta octets i k) (z i (omega arith) q) ∙ zero-mul octets (delta octets i k))
              term i q (no x) (yes e) = ap (λ (y : Octet). b i ⊗ y)
                  (ap (λ (y : ℕ). oct (cell L a y (pivot k))) e ∙ ap oct (s.one k l) ∙ oct-one ∙ sym (ap (λ (y : ℕ). delta octets y k) e ∙ delta-self octets k))
              term i q (no x) (no e) = ap (λ (y : Octet). b i ⊗ y)
                  (ap oct (s.off i q k (omega (arith, e))) ∙ oct-zero ∙ sym (delta-other octets i k e))

  module _ {T : ℕ} {S : System ℕ} (h : Holds r L T S a d) where
    pub stepped-shortfall : ShortfallBytes L T S (L - r)
    unfolding equation
    stepped-shortfall = record { lacks = record { rank = r; most = most; less = (let q : r ≤ L = rank-at-most s in omega arith) } }
      where
        up : Within octets r (cut L (symbols L a)) S.count (cut L (in_octets S).coef)
        up i l = span-pull octets (λ (c : Col L). inl c) (h.to i l)

        down : Within octets S.count (cut L (in_octets S).coef) r (cut L (symbols L a))
        down i l = span-pull octets (λ (c : Col L). inl c) (h.back i l)

        most : MostIndependent octets S.count (cut L (in_octets S).coef) r
        most = most-of-span octets L S.count r (in_octets S).coef (cut L (symbols L a)) free up down

    -- ---- the verdict

    -- fewer than columns: they can be met, and leave something open
    pub stepped-open : OctetSymbols T S → 0 < T → r < L → OpenBytes L T S
    stepped-open small pos short = go (answer-bytes pos small)
      where
        go : AnswerBytes L T S → OpenBytes L T S
        go (contradicted-bytes c) = let m = held-fit T s in absurd (c.none m.0 m.1 (held_fits m.0 h small m.2))
        go (settled-bytes o b z) = absurd (let e : 0 ≡ L - r = shortfall-bytes-once z stepped-shortfall in omega arith)
        go (left-open-bytes n o z p) = o

    -- as many as columns: a set that fits is the only one
    pub stepped-solved : (o : List ℕ) → OctetSymbols T S → 0 < T → L ≤ r → Block L T o → FitsBytes L T (stored_system r L T a d) o → SolvedBytes L T S o
    stepped-solved o small pos full b f =
        let e : L - r ≡ 0 = omega arith in
        fits-single pos small (rw e at stepped-shortfall) b (held_fits o h small f)

-- ---- the out store

-- its first L symbols are a set of their own
pub front-block : (L T : ℕ) (o : List ℕ) → Bytes o → L * T ≤ length o → Block L T (take (L * T) o)
front-block L T o bo long = record { size = length-take-le (L * T) o long; bytes = λ i. go i (dec_lt i (L * T)) }
  where
    go : (i : ℕ) → Dec (i < L * T) → get_or (take (L * T) o) i 0 < 256
    go i (yes h) = rw (get_or-take (L * T) o i 0 h) (bo i)
    go i (no h) = rw (get_or-eq_default (take (L * T) o) 0 {n = i} (let q = length-take-le (L * T) o long in omega arith)) (omega arith)

pub front_fits : {L T : ℕ} {S : System ℕ} (o : List ℕ) → FitsBytes L T S o → FitsBytes L T S (take (L * T) o)
front_fits {L} {T} {S} o f = record {
  meets = λ i h t l. sum_same L (λ c q. ap (times (S.coef i c)) (get_or-take (L * T) o (c * T + t) 0 (cell-lt T L c t q l))) ∙ f.meets i h t l;
}

-- solved settles the whole out store: the set in front, and what was there past it
pub out_once : {L T : ℕ} {S : System ℕ} {out o₁ o₂ : List ℕ} → SolvedBytes L T S (take (L * T) o₁) → SolvedBytes L T S (take (L * T) o₂)
    → OnlyBelow (L * T) out o₁ → OnlyBelow (L * T) out o₂ → o₁ ≡ o₂
out_once {L} {T} {S} {out} {o₁} {o₂} s u p q = ext_get_or 0 o₁ o₂ (p.size ∙ sym q.size) (λ k _. go k (dec_lt k (L * T)))
  where
    same : take (L * T) o₁ ≡ take (L * T) o₂
    same = solved-bytes-once s u

    go : (k : ℕ) → Dec (k < L * T) → get_or o₁ k 0 ≡ get_or o₂ k 0
    go k (yes h) = sym (get_or-take (L * T) o₁ k 0 h) ∙ ap (λ (z : List ℕ). get_or z k 0) same ∙ get_or-take (L * T) o₂ k 0 h
    go k (no h) = only-past p k (omega arith) ∙ sym (only-past q k (omega arith))
