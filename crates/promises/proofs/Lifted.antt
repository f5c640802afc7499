-- The solver's definition with its limit on n lifted (document 02, E14), beside calls of `solve`: it settles the answer, and where the arrivals are at most
-- 65,535 it is what a call of `solve` answers.
-- Assumes nothing.
use mathlib.Core.Path.{◌≡◌, refl, ap, ◌∙◌}
use mathlib.Core.List.{List}
use Prim.Native.Nat.{ℕ, ◌*◌, ◌≤◌}
use native.Mathlib.Nat.{zero-add}
use native.Mathlib.Omega.{arith}
use borrow.Author.Tests.{le-ltb, eq-eqb, ne_eqb, lt-leb}
use lib.ListN.{length, get_or, replicate, length-replicate, get_or-replicate}
use Rattle.std.specs.Prelude.{Ok}
use Rattle.field.specs.Answer.{given}
use Rattle.field.specs.Runs.{Written}
use Rattle.headers.specs.Row.{l_of}
use Rattle.headers.specs.declared.row.Row.{Row}
use Rattle.headers.proofs.Rules.{obeyed}
use Rattle.elimination.specs.declared.verdict.Verdict.{Verdict}
use Rattle.solver.specs.System.{admitted, equations}
use Rattle.solver.proofs.Displays.{large-none}
use Rattle.promises.specs.Calls.{Call, Receivable, Judged}
use Rattle.promises.specs.Nights.{SameAnswer}
use Rattle.promises.proofs.Among.{among_self}
use Rattle.promises.proofs.Exactly.{sound}
use Rattle.promises.proofs.Order.{judged-order-free, judged-order-free-out}

-- a store of zeros that is left as it is
left-zero : (n : ℕ) → Written (λ _. 0) (replicate n 0) (replicate n 0) 0 n
left-zero n = record {
  size = refl;
  part = λ k h. ap (λ (i : ℕ). get_or (replicate n 0) i 0) (zero-add k) ∙ get_or-replicate n k 0 0 h;
  low = λ k h. refl;
  high = λ k h. refl;
}

module _ (r : Row) (v : List ℕ) (k t : ℕ) (es xs : List ℕ) where
  -- `solve` refuses none of these arrivals, where they are at most 65,535 and its stores are long enough
  pub few-admitted : Receivable r v k t es xs → length es ≤ 65535 → (a d o : List ℕ) → equations r k (length es) * l_of r ≤ length a
      → equations r k (length es) * t ≤ length d → l_of r * t ≤ length o → admitted r v k t es xs a d o ≡ given tt
  few-admitted s few a d o room-rows room-values room_out =
      simp (
        obeyed s.rules,
        eq-eqb (length v) 1024 s.tables,
        large-none es (λ i l. lt-leb 16777216 (get_or es i 0) (s.ids i l)),
        le-ltb k 1 s.k-low,
        le-ltb r.kp k s.k-high,
        le-ltb 65535 (length es) few,
        ne_eqb t 0 (omega (arith, s.t-low)),
        eq-eqb (length xs) (length es * t) s.all,
        le-ltb (length a) (equations r k (length es) * l_of r) room-rows,
        le-ltb (length d) (equations r k (length es) * t) room-values,
        le-ltb (length o) (l_of r * t) room_out,
      )

module _ {r : Row} {v : List ℕ} {k t : ℕ} {es xs o o₁ : List ℕ} {w : Verdict} where
  -- an answer by the definition to at most 65,535 arrivals is that of a call of `solve`
  pub judged-call : Judged r v k t es xs o o₁ w → length es ≤ 65535 → Call r v k t es xs o o₁ (Ok w)
  judged-call j few =
      let M = equations r k (length es) in
      let a : List ℕ = replicate (M * l_of r) 0 in
      let d : List ℕ = replicate (M * t) 0 in
      let la : length a ≡ M * l_of r = length-replicate (M * l_of r) 0 in
      let ld : length d ≡ M * t = length-replicate (M * t) 0 in
      let e = few-admitted r v k t es xs j.receivable few a d o (omega arith) (omega arith) j.room_out in
      record { rows = a; values = d; rows-after = a; values-after = d; contract = (e, j.means, left-zero (M * l_of r), left-zero (M * t)) }

  -- and no call answers to more
  pub call-few : Call r v k t es xs o o₁ (Ok w) → length es ≤ 65535
  call-few c = (sound w c).few

  -- Any two answers that the definition allows for the same arrivals, whatever their number, are one.
  pub judged-once : {p p₁ : List ℕ} {u : Verdict} → Judged r v k t es xs o o₁ w → Judged r v k t es xs p p₁ u → SameAnswer r t o o₁ p p₁ w u
  judged-once {p} {p₁} {u} c d =
      let s = among_self t es xs in
      let e = judged-order-free s s w u c d in
      record { verdict = e.0; set = e.1; store = λ q. judged-order-free-out s s q w u c d }
