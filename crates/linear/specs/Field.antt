-- A field of characteristic 2 with decidable equality: all that the linear algebra of this crate asks of the octets.
-- Subtraction is addition, since `x ⊕ x` is 0.
-- Assumes nothing.
use Rattle.std.specs.Prelude.{◌≡◌, ◌≢◌}

pub record Field : Type 1 where
  infixl 60 ◌⊕◌
  infixl 70 ◌⊗◌
  pub carrier : Type 0
  pub ◌⊕◌ : carrier → carrier → carrier
  pub ◌⊗◌ : carrier → carrier → carrier
  pub 𝟘 : carrier
  pub 𝟙 : carrier
  pub inv : carrier → carrier
  pub dec : Discrete carrier
  pub add_comm : (a b : carrier) → a ⊕ b ≡ b ⊕ a
  pub add_assoc : (a b c : carrier) → (a ⊕ b) ⊕ c ≡ a ⊕ (b ⊕ c)
  pub zero-add : (a : carrier) → 𝟘 ⊕ a ≡ a
  pub add-self : (a : carrier) → a ⊕ a ≡ 𝟘
  pub mul_comm : (a b : carrier) → a ⊗ b ≡ b ⊗ a
  pub mul_assoc : (a b c : carrier) → (a ⊗ b) ⊗ c ≡ a ⊗ (b ⊗ c)
  pub one-mul : (a : carrier) → 𝟙 ⊗ a ≡ a
  pub mul-add : (a b c : carrier) → a ⊗ (b ⊕ c) ≡ a ⊗ b ⊕ a ⊗ c
  pub inv-mul : (a : carrier) → a ≢ 𝟘 → inv a ⊗ a ≡ 𝟙
  pub one-ne-zero : 𝟙 ≢ 𝟘
