-- What follows from the laws of a field of characteristic 2.
-- Assumes nothing.
use mathlib.Core.Path.{◌≡◌, sym, ap, ◌∙◌}
use mathlib.Core.Logic.{◌≢◌}
use Rattle.linear.specs.Field.{Field}

module _ (K : Field) where
  open K use {carrier as F, ◌⊕◌, ◌⊗◌, 𝟘, 𝟙, inv, dec, add_comm, add_assoc, zero-add, add-self, mul_comm, mul_assoc, one-mul, mul-add, inv-mul}

  infixl 60 ◌⊕◌
  infixl 70 ◌⊗◌
  pub add-zero : (a : F) → a ⊕ 𝟘 ≡ a
  add-zero a = add_comm a 𝟘 ∙ zero-add a

  pub add_left_comm : (a b c : F) → a ⊕ (b ⊕ c) ≡ b ⊕ (a ⊕ c)
  add_left_comm a b c = sym (add_assoc a b c) ∙ ap (λ (x : F). x ⊕ c) (add_comm a b) ∙ add_assoc b a c

  pub add-cancel : (a b : F) → a ⊕ (a ⊕ b) ≡ b
  add-cancel a b = sym (add_assoc a a b) ∙ ap (λ (x : F). x ⊕ b) (add-self a) ∙ zero-add b

  pub mul-zero : (a : F) → a ⊗ 𝟘 ≡ 𝟘
  mul-zero a = ap (λ (x : F). a ⊗ x) (sym (add-self 𝟘)) ∙ mul-add a 𝟘 𝟘 ∙ add-self (a ⊗ 𝟘)

  pub zero-mul : (a : F) → 𝟘 ⊗ a ≡ 𝟘
  zero-mul a = mul_comm 𝟘 a ∙ mul-zero a

  pub mul-one : (a : F) → a ⊗ 𝟙 ≡ a
  mul-one a = mul_comm a 𝟙 ∙ one-mul a

  pub add-mul : (a b c : F) → (a ⊕ b) ⊗ c ≡ a ⊗ c ⊕ b ⊗ c
  add-mul a b c = rw (mul_comm (a ⊕ b) c, mul-add, mul_comm c a, mul_comm c b)

  -- equal sums: the two differ by nothing
  pub eq-of-add : (a b : F) → a ⊕ b ≡ 𝟘 → a ≡ b
  eq-of-add a b p = sym (add-zero a) ∙ ap (λ (x : F). a ⊕ x) (sym p) ∙ add-cancel a b

  pub zero-of-fixed : (a b : F) → a ≡ a ⊕ b → b ≡ 𝟘
  zero-of-fixed a b e = sym (add-cancel a b) ∙ ap (λ (x : F). a ⊕ x) (sym e) ∙ add-self a

  pub add-four : (a b c d : F) → (a ⊕ b) ⊕ (c ⊕ d) ≡ (a ⊕ c) ⊕ (b ⊕ d)
  add-four a b c d = simp (add_assoc, add_left_comm)

  pub mul_inv_cancel : (x a : F) → a ≢ 𝟘 → x ⊗ inv a ⊗ a ≡ x
  mul_inv_cancel x a h = mul_assoc x (inv a) a ∙ ap (λ (y : F). x ⊗ y) (inv-mul a h) ∙ mul-one x

  pub mul-cancel-inv : (x a : F) → a ≢ 𝟘 → x ⊗ a ⊗ inv a ≡ x
  mul-cancel-inv x a h = mul_assoc x a (inv a) ∙ ap (λ (y : F). x ⊗ y) (mul_comm a (inv a) ∙ inv-mul a h) ∙ mul-one x

  pub zero_or_not : (x : F) → Dec (x ≢ 𝟘)
  zero_or_not x = go (dec x 𝟘)
    where
      go : Dec (x ≡ 𝟘) → Dec (x ≢ 𝟘)
      go (yes e) = no (λ h. h e)
      go (no h) = yes h

  pub zero-of-not-not : (x : F) → ¬ (x ≢ 𝟘) → x ≡ 𝟘
  zero-of-not-not x k = go (dec x 𝟘)
    where
      go : Dec (x ≡ 𝟘) → x ≡ 𝟘
      go (yes e) = e
      go (no h) = absurd (k h)
