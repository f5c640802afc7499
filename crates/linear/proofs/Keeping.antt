-- The row operations on the two stores keep what the equations say, and so the stores hold what they held; and what they hold with one equation
-- more.
-- Assumes nothing.
use mathlib.Core.Path.{◌≡◌, sym, ap, ◌∙◌}
use mathlib.Core.Logic.{◌≢◌, ◌⊎◌, inl, inr}
use mathlib.Core.List.{List}
use Prim.Native.Nat.{ℕ, ◌+◌, ◌*◌, ◌≤◌, ◌<◌}
use native.Mathlib.Omega.{arith}
use native.Mathlib.Decide.{ℕ_discrete}
use lib.ListN.{length}
use Rattle.field.specs.Octet.{times}
use Rattle.linear.specs.Index.{Col}
use Rattle.linear.specs.Span.{InSpan, Within}
use Rattle.linear.specs.System.{System, SameEquation, OneOf, Included, equation}
use Rattle.linear.specs.Octets.{octets, Octet, oct}
use Rattle.linear.specs.Bytes.{cell, stored_system, in_octets}
use Rattle.linear.specs.Rows.{RowAdded, RowTimes, behind}
use Rattle.linear.specs.Elimination.{Holds, Keeps, OneMore, alone}
use Rattle.linear.proofs.Span.{span-member, span-eq, span-trans, within-trans}
use Rattle.linear.proofs.System.{follows-included}
use Rattle.linear.proofs.RowOps.{same-span-refl, same-span-trans, added-same, added-both, scaled-same, scaled-both}
use Rattle.linear.proofs.Growth.{included-octets}
use Rattle.linear.proofs.Rows.{row-added, row_scaled}
use Rattle.linear.proofs.Behind.{behind-new, behind-row}

-- the equations in the first n places, each as one vector
abbrev said : (n L T : ℕ) (a d : List ℕ) → ℕ → Col L ⊎ Col T → Octet
said n L T a d = equation L T (in_octets (stored_system n L T a d))

-- ---- what a step keeps

pub keeps-refl : {n L T : ℕ} {a d : List ℕ} → Keeps n L T a d a d
keeps-refl {n} {L} {T} {a} {d} = record { says = same-span-refl octets n (said n L T a d) }

pub keeps-trans : {n L T : ℕ} {a d a₁ d₁ a₂ d₂ : List ℕ} → Keeps n L T a d a₁ d₁ → Keeps n L T a₁ d₁ a₂ d₂ → Keeps n L T a d a₂ d₂
keeps-trans s u = record { says = same-span-trans octets s.says u.says }

-- g times row k went onto row i, in both stores
pub keeps-added : {n L T : ℕ} {a d a₁ d₁ : List ℕ} (i k g : ℕ) → k < n → i ≢ k → RowAdded L i k g a a₁ → RowAdded T i k g d d₁
    → Keeps n L T a d a₁ d₁
keeps-added {n} {L} {T} {a} {d} {a₁} {d₁} i k g hk ne sa sd = record {
  says =
      added-same octets (added-both octets L T n (in_octets (stored_system n L T a d)) (in_octets (stored_system n L T a₁ d₁))
      (row-added n i k g hk ne sa) (row-added n i k g hk ne sd));
}

-- row i was multiplied by x, which y undoes
pub keeps-scaled : {n L T : ℕ} {a d a₁ d₁ : List ℕ} (i x y : ℕ) → i < n → times y x ≡ 1 → RowTimes L i x a a₁ → RowTimes T i x d d₁
    → Keeps n L T a d a₁ d₁
keeps-scaled {n} {L} {T} {a} {d} {a₁} {d₁} i x y hi e sa sd = record {
  says =
      scaled-same octets (scaled-both octets L T n (in_octets (stored_system n L T a d)) (in_octets (stored_system n L T a₁ d₁))
      (row_scaled n i x y hi e sa) (row_scaled n i x y hi e sd));
}

-- ---- what the stores hold

-- the same equations, in any order
pub holds-included : {M L T : ℕ} {S : System ℕ} {a d : List ℕ} → Included L T (stored_system M L T a d) S → Included L T S (stored_system M L T a d)
    → Holds M L T S a d
holds-included {L = L} {T = T} to back = record {
  to = follows-included octets L T (included-octets to);
  back = follows-included octets L T (included-octets back);
}

pub holds_kept : {n L T : ℕ} {S : System ℕ} {a d a₁ d₁ : List ℕ} → Holds n L T S a d → Keeps n L T a d a₁ d₁ → Holds n L T S a₁ d₁
holds_kept h k = record { to = within-trans octets k.says.to h.to; back = within-trans octets h.back k.says.back }

-- what holds a system that the stores hold, holds what they hold
pub holds-trans : {n m L T : ℕ} {S : System ℕ} {a d b e : List ℕ} → Holds n L T S a d → Holds m L T (stored_system n L T a d) b e → Holds m L T S b e
holds-trans h k = record { to = within-trans octets k.to h.to; back = within-trans octets h.back k.back }

-- stores whose first n rows and symbols are the same hold the same
pub holds_agree : {n L T : ℕ} {S : System ℕ} {a d b e : List ℕ} → ((i : ℕ) → i < n → (c : ℕ) → c < L → cell L b i c ≡ cell L a i c)
    → ((i : ℕ) → i < n → (t : ℕ) → t < T → cell T e i t ≡ cell T d i t) → Holds n L T S a d → Holds n L T S b e
holds_agree rows symbols h = holds-trans h (holds-included
    (λ i l. (i, l, record { coefs = λ c q. rows i l c q; bytes = λ t q. symbols i l t q }))
    (λ i l. (i, l, record { coefs = λ c q. sym (rows i l c q); bytes = λ t q. sym (symbols i l t q) })))

-- ---- one equation more

module _ {L T r : ℕ} {S R : System ℕ} {a d x y : List ℕ} (fa : r * L ≤ length a) (fd : r * T ≤ length d) (h : Holds r L T S a d) (m : OneMore L T S x y R) where
  abbrev all : ℕ → Col L ⊎ Col T → Octet
  all = said (r + 1) L T (behind L r a x) (behind T r d y)

  abbrev held : ℕ → Col L ⊎ Col T → Octet
  held = said r L T a d

  abbrev whole : ℕ → Col L ⊎ Col T → Octet
  whole = equation L T (in_octets R)

  abbrev new : Col L ⊎ Col T → Octet
  new = equation L T (in_octets (alone x y)) 0

  old_row : (i : ℕ) → i < r → (j : Col L ⊎ Col T) → all i j ≡ held i j
  unfolding equation
  old_row i l (inl c) = ap oct (behind-row L r a x fa i l c.0 c.1)
  old_row i l (inr t) = ap oct (behind-row T r d y fd i l t.0 t.1)

  new_row : (j : Col L ⊎ Col T) → all r j ≡ new j
  unfolding equation
  new_row (inl c) = ap oct (behind-new L r a x fa c.0)
  new_row (inr t) = ap oct (behind-new T r d y fd t.0)

  same : {i k : ℕ} {Q : System ℕ} → SameEquation L T R i Q k → (j : Col L ⊎ Col T) → whole i j ≡ equation L T (in_octets Q) k j
  unfolding equation
  same e (inl c) = ap oct (e.coefs c.0 c.1)
  same e (inr t) = ap oct (e.bytes t.0 t.1)

  to' : (i : ℕ) → i < r + 1 → InSpan octets R.count whole (all i)
  to' i l = go (ℕ_discrete i r)
    where
      go : Dec (i ≡ r) → InSpan octets R.count whole (all i)
      go (yes e) = span-eq octets (λ j. ap (λ (z : ℕ). all z j) e ∙ new_row j) (follows-included octets L T (included-octets m.new) 0 (omega arith))
      go (no n) = span-eq octets (old_row i (omega arith)) (span-trans octets (h.to i (omega arith)) (follows-included octets L T (included-octets m.old)))

  held-within : Within octets r held (r + 1) all
  held-within k l = span-eq octets (λ j. sym (old_row k l j)) (span-member octets (r + 1) all k (omega arith))

  back' : (i : ℕ) → i < R.count → InSpan octets (r + 1) all (whole i)
  back' i l = go (m.only i l)
    where
      go : OneOf L T R i S ⊎ SameEquation L T R i (alone x y) 0 → InSpan octets (r + 1) all (whole i)
      go (inl (k, b, e)) = span-eq octets (same e) (span-trans octets (h.back k b) held-within)
      go (inr e) = span-eq octets (λ j. same e j ∙ sym (new_row j)) (span-member octets (r + 1) all r (omega arith))

  -- the held equations and the one behind them say what S and that equation say
  pub holds_more : Holds (r + 1) L T R (behind L r a x) (behind T r d y)
  holds_more = record { to = to'; back = back' }
