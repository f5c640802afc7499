-- Elimination with the pivots in any order: what each row operation does to the form on the way.
-- Assumes nothing.
use mathlib.Core.Path.{◌≡◌, sym, ap, ap₂, ◌∙◌}
use mathlib.Core.Logic.{◌≢◌}
use Prim.Native.Nat.{ℕ, suc, ◌≤◌, ◌<◌}
use native.Mathlib.Omega.{arith}
use native.Mathlib.Decide.{ℕ_discrete}
use Rattle.linear.specs.Field.{Field}
use Rattle.linear.specs.Index.{update, cut}
use Rattle.linear.specs.Total.{delta}
use Rattle.linear.specs.RowOps.{Added, Scaled, Swapped}
use Rattle.linear.specs.Reduced.{Reduced, Partly}
use Rattle.linear.proofs.Field.{add-zero, mul-zero, mul-one}
use Rattle.linear.proofs.Index.{update_same, update_other}
use Rattle.linear.proofs.Total.{delta-self, delta-other}

module _ (K : Field) where
  open K use {carrier as F, ◌⊕◌, ◌⊗◌, 𝟘, 𝟙, add-self}

  infixl 60 ◌⊕◌
  infixl 70 ◌⊗◌
  pub partly_none : (L M : ℕ) (A : ℕ → ℕ → F) → Partly K L M A 0
  partly_none L M A = record { enough = omega arith; pivot = λ _. 0; pivot-below = λ k h. absurd (omega arith); unit = λ i k h l. absurd (omega arith) }

  -- the rows from r on are 0: the form from which the answers are read
  pub partly-reduced : {L M r : ℕ} {A : ℕ → ℕ → F} → Partly K L M A r → ((i : ℕ) → r ≤ i → i < M → (c : ℕ) → c < L → A i c ≡ 𝟘)
      → Reduced K L M A r
  partly-reduced p z = record {
    enough = p.enough;
    pivot = p.pivot;
    pivot-below = p.pivot-below;
    unit = λ i k h l. p.unit i k (let q = p.enough in omega arith) l;
    rest = z;
  }

  module _ {L M r : ℕ} {A : ℕ → ℕ → F} (p : Partly K L M A r) where
    zero-at : (i k : ℕ) → i < M → k < r → r ≤ i → A i (p.pivot k) ≡ 𝟘
    zero-at i k h l q = p.unit i k h l ∙ delta-other K i k (λ e. omega arith)

    -- rows from r on change places
    pub partly-swap : {B : ℕ → ℕ → F} {i : ℕ} → r ≤ i → Swapped K M r i (cut L A) (cut L B) → Partly K L M B r
    partly-swap {B} {i} hi s = record {
      enough = p.enough;
      pivot = p.pivot;
      pivot-below = p.pivot-below;
      unit = λ m k h l. go m k h l (ℕ_discrete m r) (ℕ_discrete m i);
    }
      where
        go : (m k : ℕ) → m < M → k < r → Dec (m ≡ r) → Dec (m ≡ i) → B m (p.pivot k) ≡ delta K m k
        go m k h l (yes e) d =
            ap (λ (z : ℕ). B z (p.pivot k)) e ∙ s.first (p.pivot k, p.pivot-below k l) ∙ zero-at i k s.second_below l hi
            ∙ sym (delta-other K m k (λ q. omega arith))
        go m k h l (no n) (yes e) =
            ap (λ (z : ℕ). B z (p.pivot k)) e ∙ s.second (p.pivot k, p.pivot-below k l) ∙ zero-at r k s.first_below l (omega arith)
            ∙ sym (delta-other K m k (λ q. omega arith))
        go m k h l (no n) (no o) = s.others m h n o (p.pivot k, p.pivot-below k l) ∙ p.unit m k h l

    pub partly-scale : {B : ℕ → ℕ → F} {x y : F} → Scaled K M r x y (cut L A) (cut L B) → Partly K L M B r
    partly-scale {B} {x} s = record { enough = p.enough; pivot = p.pivot; pivot-below = p.pivot-below; unit = λ m k h l. go m k h l (ℕ_discrete m r) }
      where
        go : (m k : ℕ) → m < M → k < r → Dec (m ≡ r) → B m (p.pivot k) ≡ delta K m k
        go m k h l (yes e) =
            ap (λ (z : ℕ). B z (p.pivot k)) e ∙ s.row (p.pivot k, p.pivot-below k l) ∙ ap (λ (z : F). x ⊗ z) (zero-at r k s.row_below l (omega arith))
            ∙ mul-zero K x ∙ sym (delta-other K m k (λ q. omega arith))
        go m k h l (no n) = s.others m h n (p.pivot k, p.pivot-below k l) ∙ p.unit m k h l

    -- row r is 1 in column c, and goes off all the others there: it has a pivot now
    pub partly-take : {B : ℕ → ℕ → F} {c : ℕ} → c < L → A r c ≡ 𝟙 → Added K M r (λ i. A i c) (cut L A) (cut L B) → Partly K L M B (suc r)
    partly-take {B} {c} hc one s = record {
      enough = s.row_below;
      pivot = pivot';
      pivot-below = λ k h. below k h (ℕ_discrete k r);
      unit = λ i k h l. unit' i k h (ℕ_discrete i r) (ℕ_discrete k r) l;
    }
      where
        pivot' : ℕ → ℕ
        pivot' = update r c p.pivot

        old : (k : ℕ) → k ≢ r → pivot' k ≡ p.pivot k
        old k n = update_other r c p.pivot k n

        new : (k : ℕ) → k ≡ r → pivot' k ≡ c
        new k e = ap pivot' e ∙ update_same r c p.pivot

        below : (k : ℕ) → k < suc r → Dec (k ≡ r) → pivot' k < L
        below k h (yes e) = let q : pivot' k ≡ c = new k e in omega arith
        below k h (no n) = let q : pivot' k ≡ p.pivot k = old k n in let u : p.pivot k < L = p.pivot-below k (omega arith) in omega arith

        unit' : (i k : ℕ) → i < M → Dec (i ≡ r) → Dec (k ≡ r) → k < suc r → B i (pivot' k) ≡ delta K i k
        unit' i k h (yes e) (yes f) l = ap₂ B e (new k f) ∙ s.row_kept (c, hc) ∙ one ∙ sym (ap₂ (delta K) e f ∙ delta-self K r)
        unit' i k h (yes e) (no n) l =
            ap₂ B e (old k n) ∙ s.row_kept (p.pivot k, p.pivot-below k (omega arith)) ∙ p.unit r k s.row_below (omega arith)
            ∙ ap (λ (z : ℕ). delta K z k) (sym e)
        unit' i k h (no n) (yes f) l =
            ap (B i) (new k f) ∙ s.others i h n (c, hc) ∙ ap (λ (z : F). A i c ⊕ A i c ⊗ z) one ∙ ap (λ (z : F). A i c ⊕ z) (mul-one K (A i c))
            ∙ add-self (A i c) ∙ sym (delta-other K i k (λ g. n (g ∙ f)))
        unit' i k h (no n) (no m) l =
            ap (B i) (old k m) ∙ s.others i h n (p.pivot k, p.pivot-below k (omega arith))
            ∙ ap (λ (z : F). A i (p.pivot k) ⊕ A i c ⊗ z) (zero-at r k s.row_below (omega arith) (omega arith))
            ∙ ap (λ (z : F). A i (p.pivot k) ⊕ z) (mul-zero K (A i c)) ∙ add-zero K (A i (p.pivot k)) ∙ p.unit i k h (omega arith)
