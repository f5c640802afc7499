-- Numbers as octets: sums, products and the equations between them carry over, with no bounds.
-- Assumes nothing.
use mathlib.Core.Path.{◌≡◌, refl, sym, ap, ◌∙◌}
use Prim.Native.Nat.{ℕ, zero, suc, ◌%◌, ◌<◌}
use native.Mathlib.Nat.{mod-eq_of_lt}
use native.Mathlib.Fin
use lib.Bits.{xor_mod}
use Rattle.field.specs.Octet.{plus, times}
use Rattle.field.specs.Sum.{sum}
use Rattle.field.proofs.Laws.{times-lt, times_mod, times-mod-left}
use Rattle.linear.specs.Total.{total}
use Rattle.linear.specs.Octets.{octets, Octet, oct, value}
open octets use {◌⊕◌, ◌⊗◌, 𝟘, 𝟙}

infixl 60 ◌⊕◌
infixl 70 ◌⊗◌
pub value-lt : (a : Octet) → value a < 256
unfolding octets value
value-lt a = a.1

pub value-oct : (n : ℕ) → n < 256 → value (oct n) ≡ n
unfolding octets oct value
value-oct n h = mod-eq_of_lt h

pub oct-value : (a : Octet) → oct (value a) ≡ a
unfolding octets oct value
oct-value a = Fin.val_path (mod-eq_of_lt a.1)

pub oct-once : (m n : ℕ) → m < 256 → n < 256 → oct m ≡ oct n → m ≡ n
oct-once m n hm hn e = sym (value-oct m hm) ∙ ap value e ∙ value-oct n hn

pub oct-zero : oct 0 ≡ 𝟘
unfolding octets oct
oct-zero = Fin.val_path refl

pub oct-one : oct 1 ≡ 𝟙
unfolding octets oct
oct-one = Fin.val_path refl

pub oct-plus : (a b : ℕ) → oct (plus a b) ≡ oct a ⊕ oct b
unfolding octets oct
oct-plus a b = Fin.val_path (xor_mod a b 8)

pub oct-times : (a b : ℕ) → oct (times a b) ≡ oct a ⊗ oct b
unfolding octets oct
oct-times a b = Fin.val_path (mod-eq_of_lt (times-lt a b) ∙ sym (times_mod (a % 256) b ∙ times-mod-left a b))

pub oct-sum : (n : ℕ) (f : ℕ → ℕ) → oct (sum n f) ≡ total octets n (λ k. oct (f k))
unfolding sum total
oct-sum zero f = oct-zero
oct-sum (suc n) f = oct-plus (f zero) (sum n (λ k. f (suc k))) ∙ ap (λ (x : Octet). oct (f zero) ⊕ x) (oct-sum n (λ k. f (suc k)))
