use mathlib.Core.Path.{◌≡◌, sym, ap, ◌∙◌}
use Prim.Native.Nat.{ℕ, suc, ◌+◌, ◌-◌, ◌*◌, ◌/◌, ◌%◌, ◌^◌, ◌<◌}
use native.Mathlib.Nat.{div-one, mod-eq_of_lt}
use native.Mathlib.Omega.{arith}
use lib.Bits.{xor_zero_l, xor_zero_r}
use Rattle.field.proofs.Xor.{assoc}
use lib.Pow.{shr-shr}
use Rattle.field.proofs.Laws.{copies-doubled, times-comm}
use Rattle.field.specs.Octet.{plus, doubled, copies, times}
use Rattle.field.proofs.doubling.mul.Goals as goal

-- the next bit goes to the product
more : (p x y n : ℕ) → x < 256 → plus (plus p (x * (y % 2))) (copies n (doubled x) (y / 2)) ≡ plus p (copies (suc n) x y)
unfolding copies
more p x y n h = assoc p (x * (y % 2)) (copies n (doubled x) (y / 2)) ∙ ap (λ (z : ℕ). plus p (plus (x * (y % 2)) z)) (sym (copies-doubled n x (y / 2) h))

turn : (p x a i : ℕ) {d : ℕ} → d ≡ doubled x → x < 256 → i < 8
    → plus (plus p (x * (a / 2 ^ i % 2))) (copies (8 - (i + 1)) d (a / 2 ^ (i + 1))) ≡ plus p (copies (8 - i) x (a / 2 ^ i))
turn p x a i e h l =
    rw e
    (ap (λ (z : ℕ). plus (plus p (x * (a / 2 ^ i % 2))) (copies (8 - (i + 1)) (doubled x) z)) (sym (shr-shr a i 1))
    ∙ more p x (a / 2 ^ i) (8 - (i + 1)) h
    ∙ ap (λ (z : ℕ). plus p (copies z x (a / 2 ^ i))) (omega arith))

none : (a b : ℕ) → b < 256 → plus 0 (copies 8 b (a / 2 ^ 0)) ≡ times a b
unfolding times
none a b h = xor_zero_l (copies 8 b (a / 2 ^ 0)) ∙ ap (copies 8 b) (div-one a) ∙ ap (λ (x : ℕ). copies 8 x a) (sym (mod-eq_of_lt h)) ∙ times-comm b a

all : (p x a b i : ℕ) → i ≡ 8 → plus p (copies (8 - i) x (a / 2 ^ i)) ≡ times a b → p ≡ times a b
unfolding copies
all p x a b i e h = sym (xor_zero_r p) ∙ (rw e at h)

pub loop-i-init : goal.loop-i-init
loop-i-init c = none c.args.a c.args.b c.ranges.b.fits

pub loop-i-preserved : goal.loop-i-preserved
loop-i-preserved c =
    let i = c.loop-i in
    turn i.product i.copy c.args.a i.i c.double-copy.ensures (omega arith) (omega arith) ∙ i.invariant

pub returns : goal.returns
returns c = all c.loop-i.product c.loop-i.copy c.args.a c.args.b c.loop-i.i (omega arith) c.loop-i.invariant
