-- What a question answers: what the held rows come to, once the rows that are fixed are among them.
-- Assumes nothing.
use mathlib.Core.Path.{◌≡◌, refl, sym, ap, subst}
use mathlib.Core.List.{List}
use Prim.Native.Nat.{ℕ, ◌<◌}
use Rattle.headers.specs.Row.{l_of}
use Rattle.linear.specs.Bytes.{OctetSymbols}
use Rattle.elimination.specs.Steps.{StoresRoom}
use Rattle.elimination.specs.Taking.{Lent}
use Rattle.elimination.specs.Settling.{Settles}
use Rattle.elimination.specs.Solving.{HeldVerdict}
use Rattle.elimination.specs.Verdict.{Means}
use Rattle.elimination.proofs.Steps.{room-kept}
use Rattle.elimination.proofs.Solving.{means-held, pivots-kept}
use Rattle.std.specs.Prelude.{Option, Some, None}
use Rattle.elimination.specs.declared.verdict.Verdict.{Verdict}
use Rattle.elimination.specs.declared.verdict.Verdict.TheVariants.{Contradiction}
use Rattle.solver.specs.System.{hdpc_rows}
use Rattle.solver.proofs.Groups.{octets-blank, octet-symbols}
use Rattle.intake.specs.Taking.{Says, Placed}
use Rattle.intake.specs.State.{Begun, t_in, l_in}
use Rattle.intake.specs.Night.{Stretch, Named, Sent, Completes, AnswersHeld, system_in}
use Rattle.intake.proofs.Packets.{pivots-for}
use Rattle.intake.proofs.Steps.{held-lent}

-- the symbols of a stretch are of octets
sent-octets : (z : Stretch) → Sent z → OctetSymbols z.t (system_in z)
sent-octets z s =
    octet-symbols (hdpc_rows z.tables z.row) z.row z.tables z.k z.t z.esis z.symbols (octets-blank z.t _ _) s.bytes

-- by the words of the state, or of the stretch
means-named : (z : Stretch) (st o o₁ : List ℕ) (v : Verdict) → Named z st → Means (l_in st) (t_in st) (system_in z) o o₁ v
    → Means (l_of z.row) z.t (system_in z) o o₁ v
means-named z st o o₁ v n m =
    subst (λ (x : ℕ). Means (l_of z.row) x (system_in z) o o₁ v) n.t (subst (λ (x : ℕ). Means x (t_in st) (system_in z) o o₁ v) (ap l_of n.row) m)

module _ {st ps a d st₁ ps₁ a₁ d₁ : List ℕ} {q : Option ℕ} (u : Completes st ps a d st₁ ps₁ a₁ d₁ q) where
  -- no set fits
  pub answers-clash : (o : List ℕ) → q ≡ None → AnswersHeld st ps a d o st₁ ps₁ a₁ d₁ o Contradiction
  answers-clash o e z h =
      let p = u.holds z h in
      (p.0, means-named z st o o Contradiction h.named (subst (Says (l_in st) (t_in st) (system_in z) ps₁ a₁ d₁) e p.1, refl))

  module _ (r : ℕ) (e : q ≡ Some r) where
    -- the held rows stand in the stores
    pub settle-ready : Begun st ps → StoresRoom (l_in st) (l_in st) (t_in st) a d → Lent (l_in st) (t_in st) r ps₁ a₁ d₁
    settle-ready b room = held-lent (record {
      room = room-kept room u.within.rows.size u.within.symbols.size;
      pivots = pivots-kept (pivots-for b) u.within.pivots.size;
      placed = subst (Placed (l_in st) ps₁) e u.placed;
    })

    pub answers-held : (o o₁ : List ℕ) (v : Verdict) → 0 < t_in st → Settles (l_in st) (t_in st) r ps₁ a₁ d₁ o o₁ → HeldVerdict (l_in st) r v
        → AnswersHeld st ps a d o st₁ ps₁ a₁ d₁ o₁ v
    answers-held o o₁ v pos s w z h =
        let p = u.holds z h in
        let said = subst (Says (l_in st) (t_in st) (system_in z) ps₁ a₁ d₁) e p.1 in
        let small = subst (λ (x : ℕ). OctetSymbols x (system_in z)) (sym h.named.t) (sent-octets z h.sent) in
        (p.0, means-named z st o o₁ v h.named (means-held ps₁ a₁ d₁ o (system_in z) pos said.0 s small said.1 v w))
