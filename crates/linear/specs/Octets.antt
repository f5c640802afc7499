-- The octets as a field: the numbers below 256 with `field`'s sum, product and inverse (RFC 6330, 5.7).
-- Assumes nothing.
use Rattle.std.proofs.Common.{refl, ap, mod-lt, pos_of_ne-zero, ltb-true}
use borrow.Author.Tests.{eqb-false}
use Prim.Native.Nat.{ℕ, ◌%◌, Fin}
use native.Mathlib.Fin.{val_path}
use Rattle.std.proofs.Math.Decide.{Fin-discrete}
use Rattle.std.proofs.lemmas.Nat.{xor_comm, xor_lt}
use Rattle.std.specs.Int.Bits.{xor_zero_l, xor_self}
use Rattle.field.specs.Octet.{plus, times, inverse}
use Rattle.field.proofs.Xor.{assoc}
use Rattle.field.proofs.Laws.{times-lt, times-comm, times-assoc, one-times, times-plus, inverse-lt, inverse-times}
use Rattle.linear.specs.Field.{Field}

unfoldable pub octets : Field
octets = record {
  carrier = Fin 256;
  ◌⊕◌ = λ a b. (plus a.0 b.0, xor_lt 8 a.0 b.0 a.1 b.1);
  ◌⊗◌ = λ a b. (times a.0 b.0, times-lt a.0 b.0);
  𝟘 = (0, ltb-true 0 256 refl);
  𝟙 = (1, ltb-true 1 256 refl);
  inv = λ a. (inverse a.0, inverse-lt a.0);
  dec = Fin-discrete 256;
  add_comm = λ a b. val_path (xor_comm a.0 b.0);
  add_assoc = λ a b c. val_path (assoc a.0 b.0 c.0);
  zero-add = λ a. val_path (xor_zero_l a.0);
  add-self = λ a. val_path (xor_self a.0);
  mul_comm = λ a b. val_path (times-comm a.0 b.0);
  mul_assoc = λ a b c. val_path (times-assoc a.0 b.0 c.0);
  one-mul = λ a. val_path (one-times a.0 a.1);
  mul-add = λ a b c. val_path (times-plus a.0 b.0 c.0);
  inv-mul = λ a h. val_path (inverse-times a.0 (pos_of_ne-zero (λ e. h (val_path e))) a.1);
  one-ne-zero = λ e. eqb-false 1 0 refl (ap (λ (x : Fin 256). x.0) e);
}

abbrev pub Octet : Type 0
Octet = Field.carrier octets

-- a number as an octet, by its low eight bits, and back
unfoldable pub oct : ℕ → Octet
unfolding octets
oct n = (n % 256, mod-lt n (ltb-true 0 256 refl))

unfoldable pub value : Octet → ℕ
unfolding octets
value a = a.0
