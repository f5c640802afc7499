-- The filled stores hold the system of the call: each equation of the one is an equation of the other.
-- Assumes nothing.
use mathlib.Core.Path.{◌≡◌, sym, ap, ◌∙◌, subst}
use mathlib.Core.List.{List}
use Prim.Native.Nat.{ℕ, ◌+◌, ◌-◌, ◌*◌, ◌≤◌, ◌<◌}
use native.Mathlib.Nat.{mul-le-mul_right, add-sub_cancel_left}
use native.Mathlib.Decide.{dec_lt}
use native.Mathlib.Omega.{arith}
use borrow.Author.Tests.{lt-ltb, le-ltb}
use lib.ListN.{length, get_or, get_or-eq_default}
use Rattle.headers.specs.Row.{l_of}
use Rattle.headers.specs.Shift.{shifted}
use Rattle.headers.specs.declared.row.Row.{Row}
use Rattle.constraints.specs.Encoding.{enc_of}
use Rattle.linear.specs.System.{System, SameEquation, OneOf, Included}
use Rattle.linear.specs.Bytes.{cell, stored_system}
use Rattle.linear.specs.Elimination.{Holds}
use Rattle.linear.proofs.Joined.{same-turned, one_then}
use Rattle.linear.proofs.Keeping.{holds-included}
use Rattle.solver.specs.Order.{Sendable, isi_rows, isi_of, key_of, place_of}
use Rattle.solver.specs.System.{RowsFilled, SymbolsFilled, equations, ldpc_rows, hdpc_rows, padding_rows, arrival_rows, system_of}
use Rattle.solver.proofs.Groups.{has-ldpc, has-hdpc, has-padding, has-arrivals, groups-in}
use Rattle.solver.proofs.Order.{place-below, place-onto, degree-small}

module _ (r : Row) (v : List ℕ) (k t : ℕ) (es xs : List ℕ) where
  isi-arrival : (i : ℕ) → i < length es → isi_of r k es i ≡ shifted (get_or es i 0) k r.kp
  unfolding isi_of
  isi-arrival i h = rw (lt-ltb i (length es) h)

  isi-padding : (i : ℕ) → isi_of r k es (length es + i) ≡ k + i
  unfolding isi_of
  isi-padding i = rw (le-ltb (length es + i) (length es) (omega arith), add-sub_cancel_left (length es) i)

  module _ {a₀ a d₀ d : List ℕ} (ready : Sendable r v k es) (f : RowsFilled r v k es a₀ a) (w : SymbolsFilled r v k t es xs d₀ d) (all : length xs ≡ length es * t) where
    abbrev L : ℕ
    L = l_of r

    abbrev n : ℕ
    n = isi_rows r k es

    abbrev M : ℕ
    M = equations r k (length es)

    abbrev S : System ℕ
    S = system_of r v k t es xs

    abbrev R : System ℕ
    R = stored_system M L t a d

    abbrev at : ℕ → ℕ
    at = place_of v r k es

    past : (i b : ℕ) → length es ≤ i → cell t xs i b ≡ 0
    past i b h = get_or-eq_default xs 0 {n = i * t + b} (omega (arith, all, mul-le-mul_right {m = length es} {n = i} t h))

    -- where equation i of each group stands in the stores
    ldpc-same : (i : ℕ) → i < r.s → SameEquation L t (ldpc_rows r) i R (n + i)
    ldpc-same i h = record { coefs = λ c l. sym (f.ldpc i h c l); bytes = λ b l. sym (w.blank i (omega arith) b l) }

    hdpc-same : (i : ℕ) → i < r.h → SameEquation L t (hdpc_rows v r) i R (n + r.s + i)
    hdpc-same i h = record {
      coefs = λ c l. sym (f.hdpc i h c l);
      bytes = λ b l. let z : n + (r.s + i) ≡ n + r.s + i = omega arith in sym (w.blank (r.s + i) (omega arith) b l) ∙ ap (λ (x : ℕ). cell t d x b) z;
    }

    padding-same : (i : ℕ) → i < r.kp - k → SameEquation L t (padding_rows v r k) i R (at (length es + i))
    padding-same i h = record {
      coefs = λ c l. ap (λ (x : ℕ). enc_of v r x c) (sym (isi-padding i)) ∙ sym (f.row (length es + i) (omega arith) c l);
      bytes = λ b l. sym (past (length es + i) b (omega arith)) ∙ sym (w.symbol (length es + i) (omega arith) b l);
    }

    arrival-same : (i : ℕ) → i < length es → SameEquation L t (arrival_rows v r k t es xs) i R (at i)
    arrival-same i h = record {
      coefs = λ c l. ap (λ (x : ℕ). enc_of v r x c) (sym (isi-arrival i h)) ∙ sym (f.row i (omega arith) c l);
      bytes = λ b l. sym (w.symbol i (omega arith) b l);
    }

    inside : (j : ℕ) → j < n → at j < M
    inside j h = let q = place-below (key_of v r k es) j n h in omega arith

    pub system-stored : Included L t S R
    system-stored =
        groups-in (hdpc_rows v r) r v k t es xs L t (λ i h. (n + i, omega arith, ldpc-same i h)) (λ i h. (n + r.s + i, omega arith, hdpc-same i h))
        (λ i h. (at (length es + i), inside (length es + i) (omega arith), padding-same i h)) (λ i h. (at i, inside i (omega arith), arrival-same i h))

    -- so row e, where equation i of a group stands, is an equation of the system
    found : {G : System ℕ} {i e e₁ : ℕ} → SameEquation L t G i R e₁ → OneOf L t G i S → e₁ ≡ e → OneOf L t R e S
    found s o q = subst (λ (x : ℕ). OneOf L t R x S) q (one_then (same-turned s) o)

    pub stored-system : Included L t R S
    stored-system e h = go (dec_lt e n) (dec_lt e (n + r.s))
      where
        sent : (j : ℕ) → j < n → at j ≡ e → Dec (j < length es) → OneOf L t R e S
        sent j b q (yes x) = found (arrival-same j x) (has-arrivals (hdpc_rows v r) r v k t es xs L t j x) q
        sent j b q (no x) =
            let i = j - length es in
            let z : length es + i ≡ j = omega arith in
            found (padding-same i (omega arith)) (has-padding (hdpc_rows v r) r v k t es xs L t i (omega arith)) (ap at z ∙ q)

        go : Dec (e < n) → Dec (e < n + r.s) → OneOf L t R e S
        go (yes x) y =
            let p = place-onto (key_of v r k es) 31 n e (λ i b. degree-small ready (isi_of r k es i)) x in
            sent p.0 p.1 p.2 (dec_lt p.0 (length es))
        go (no x) (yes y) = found (ldpc-same (e - n) (omega arith)) (has-ldpc (hdpc_rows v r) r v k t es xs L t (e - n) (omega arith)) (omega arith)
        go (no x) (no y) =
            let i = e - (n + r.s) in
            found (hdpc-same i (omega arith)) (has-hdpc (hdpc_rows v r) r v k t es xs L t i (omega arith)) (omega arith)

    pub holds : Holds M L t S a d
    holds = holds-included stored-system system-stored
