-- `builders::beneath::adding::enc_rows` meets its contract: after k turns the rows of the first k ISIs are added.
-- Assumes nothing.
use mathlib.Core.List.{List}
use Prim.Native.Nat.{ℕ, ◌+◌}
use lib.ListN.{get_or}
use Rattle.field.specs.Sum.{sum}
use Rattle.constraints.specs.Encoding.{enc}
use Rattle.builders.specs.Adding.{Added, only}
use Rattle.builders.proofs.beneath.adding.enc_rows.Given as goal

abbrev pub term : ℕ → List ℕ → List ℕ → ℕ → ℕ → ℕ → ℕ → ℕ → ℕ → ℕ → ℕ
term from v isis j w p p1 r c k = only (from + k) (enc v j w p p1 (get_or isis k 0)) r c

abbrev pub invariant-loop-k : goal.invariant-loop-k
invariant-loop-k l = Added (λ r c. sum l.k (term l.from l.tables l.isis l.j l.w l.p l.p1 r c)) l.initial.ws l.ws l.m
