-- What is known of a call that is not refused.
-- Assumes nothing.
use mathlib.Core.Path.{◌≡◌, sym, ap, ◌∙◌}
use mathlib.Core.Bool.{Bool, false, not}
use mathlib.Core.List.{List}
use Prim.Native.Nat.{ℕ, ◌*◌, ◌<◌}
use native.Mathlib.Decide.{dec_lt}
use native.Mathlib.Omega.{arith}
use borrow.Author.Tests.{ltb-false, eqb-true, eqb-false, not-false, le-leb}
use lib.Dec.{eqb, ltb}
use lib.ListN.{length, get_or}
use Rattle.field.specs.Answer.{given}
use Rattle.field.specs.Choice.{pick}
use Rattle.field.proofs.Refusals.{passed}
use Rattle.headers.specs.Row.{l_of}
use Rattle.headers.specs.declared.row.Row.{Row}
use Rattle.headers.proofs.Rules.{passed-row}
use Rattle.solver.specs.Display.{any_large}
use Rattle.solver.specs.System.{Admits, admitted, equations}
use Rattle.solver.proofs.Displays.{large-at}

pub small : (es : List ℕ) → any_large es ≡ false → (i : ℕ) → i < length es → get_or es i 0 < 16777216
small es e i h = go (dec_lt (get_or es i 0) 16777216)
  where
    go : Dec (get_or es i 0 < 16777216) → get_or es i 0 < 16777216
    go (yes l) = l
    go (no l) = absurd (let z : ◌≡◌ {A = ℕ} 1 0 = ap (λ (b : Bool). pick b 1 0) (sym (large-at es i h (le-leb 16777216 (get_or es i 0) (omega arith))) ∙ e) in omega arith)

module _ (r : Row) (v : List ℕ) (k t : ℕ) (es xs a d o : List ℕ) where
  abbrev n : ℕ
  n = length es

  -- what each test of a call that is not refused has made sure of
  pub admits : admitted r v k t es xs a d o ≡ given tt → Admits r v k t es xs a d o
  admits e =
      let p1 = passed-row _ tt e in
      let p2 = passed (not (eqb (length v) 1024)) 5 _ tt p1.1 in
      let p3 = passed (any_large es) 9 _ tt p2.1 in
      let p4 = passed (ltb k 1) 9 _ tt p3.1 in
      let p5 = passed (ltb r.kp k) 9 _ tt p4.1 in
      let p6 = passed (ltb 65535 n) 9 _ tt p5.1 in
      let p7 = passed (eqb t 0) 10 _ tt p6.1 in
      let p8 = passed (not (eqb (length xs) (n * t))) 10 _ tt p7.1 in
      let p9 = passed (ltb (length a) (equations r k n * l_of r)) 8 _ tt p8.1 in
      let p10 = passed (ltb (length d) (equations r k n * t)) 8 _ tt p9.1 in
      let p11 = passed (ltb (length o) (l_of r * t)) 8 _ tt p10.1 in
      record {
        fillable = record {
          sendable = record {
            rules = p1.0;
            tables = eqb-true (length v) 1024 (not-false (eqb (length v) 1024) p2.0);
            k-low = ltb-false k 1 p4.0;
            k-high = ltb-false r.kp k p5.0;
            few = ltb-false 65535 n p6.0;
            ids = small es p3.0;
          };
          all = eqb-true (length xs) (n * t) (not-false (eqb (length xs) (n * t)) p8.0);
          room-rows = ltb-false (length a) (equations r k n * l_of r) p9.0;
          room-values = ltb-false (length d) (equations r k n * t) p10.0;
        };
        t-low = let q : t ≡ 0 → ⊥ = eqb-false t 0 p7.0 in omega arith;
        room_out = ltb-false (length o) (l_of r * t) p11.0;
      }
