-- Bounds under another name; what was written to the front of a store is a list.
-- Assumes nothing.
use mathlib.Core.Path.{◌≡◌, sym, ap, ◌∙◌, subst}
use mathlib.Core.List.{List}
use Prim.Native.Nat.{ℕ, ◌≤◌}
use native.Mathlib.Nat.{zero-add}
use native.Mathlib.Omega.{arith}
use lib.ListN.{length, get_or, take}
use lib.Seq.{get_or-take, ext_get_or, length-take-le}
use Rattle.field.specs.Runs.{Written}
use Rattle.linear.specs.Bytes.{tabulate}
use Rattle.linear.proofs.Bytes.{length-tabulate, get_d_tabulate}

pub reach : {x m n : ℕ} → x ≤ m → m ≡ n → x ≤ n
reach {x} h e = subst (λ (k : ℕ). x ≤ k) e h

pub no_more : {m n : ℕ} → m ≡ n → m ≤ n
no_more e = omega arith

pub within : {m n x : ℕ} → m ≡ n → m ≤ x → n ≤ x
within {x = x} e h = subst (λ (k : ℕ). k ≤ x) e h

pub tabulated : {f : ℕ → ℕ} {xs ys : List ℕ} {n : ℕ} → Written f xs ys 0 n → n ≤ length xs → take n ys ≡ tabulate n f
tabulated {f} {xs} {ys} {n} w h =
    let l : length (take n ys) ≡ n = length-take-le n ys (omega (arith, w.size)) in
    ext_get_or 0 (take n ys) (tabulate n f) (l ∙ sym (length-tabulate n f))
    (λ k b. get_or-take n ys k 0 (omega arith) ∙ ap (λ (i : ℕ). get_or ys i 0) (sym (zero-add k)) ∙ w.part k (omega arith)
    ∙ sym (get_d_tabulate n f k (omega arith)))
