-- A delivery comes to one thing; the source symbols that arrived stand in the object.
-- Assumes nothing.
use mathlib.Core.Path.{◌≡◌, refl, sym, ap, ap₂, ◌∙◌, subst}
use mathlib.Core.Bool.{true}
use mathlib.Core.List.{List}
use Rattle.std.specs.Prelude.{Ok, Err}
use Prim.Native.Nat.{ℕ, ◌+◌, ◌*◌, ◌≤◌, ◌<◌}
use native.Mathlib.Nat.{zero-add}
use native.Mathlib.Omega.{arith}
use lib.Arith.{digits_div, digits_mod, digits_lt}
use lib.ListN.{length, get_or, take}
use lib.Seq.{get_or-drop}
use Rattle.field.specs.Runs.{Written}
use lib.Dec.{eqb}
use Rattle.field.specs.Choice.{pick}
use Rattle.field.specs.declared.refusal.Part.{Part}
use Rattle.field.specs.declared.refusal.Part.TheVariants as Parts
use Rattle.field.specs.declared.refusal.Refusal.TheVariants as Why
use Rattle.field.proofs.Answers.{given-not-refused, refused-only, named, read_back}
use Rattle.field.proofs.Writing.{written_once}
use Rattle.field.proofs.Parts.{part_at}
use Rattle.headers.specs.Row.{l_of}
use Rattle.headers.specs.declared.row.Row.{Row}
use Rattle.headers.proofs.Quotient.{ceil-enough}
use Rattle.headers.proofs.Shifts.{shifted-below}
use Rattle.linear.specs.System.{System}
use Rattle.linear.proofs.Growth.{fits-bytes-fewer}
use Rattle.encoding.specs.Encoded.{encoded}
use Rattle.encoding.proofs.Settled.{RowOf, encoded-fits}
use Rattle.constraints.specs.Encoding.{enc_of}
use Rattle.elimination.specs.declared.verdict.Verdict.{Verdict}
use Rattle.elimination.specs.declared.verdict.Verdict.TheVariants.{Solved, Contradiction, Open}
use Rattle.elimination.proofs.Once.{verdict-once}
use Rattle.solver.specs.System.{hdpc_rows, sent_row, arrival_rows}
use Rattle.solver.proofs.Groups.{has-arrivals}
use Rattle.delivery.specs.Layout.{row_in, tables_of, f_of, k_of, t_of, n_of, packet_at, packet_of, is_own, esi_of, esis_in, esis_of, symbols_of}
use Rattle.delivery.specs.Screen.{stop_of}
use Rattle.delivery.specs.Received.{Comes, Concluding, Received, delivered_system, source_octet, taken}
use Rattle.delivery.specs.declared.beneath.packets.Passed.{Passed}
use Rattle.delivery.specs.declared.beneath.screen.Stop.{Stop}
use Rattle.delivery.specs.declared.beneath.screen.Stop.TheVariants as Stops
use Rattle.delivery.specs.declared.beneath.receiver.Concluded.{Concluded}
use Rattle.delivery.proofs.Screening.{sound}
use Rattle.delivery.proofs.Gathering.{packet-ends, packets-in, symbols-long, esi-there, symbol-there}

-- ---- one verdict, or one reason

-- the reason of a code
abbrev stopped : ℕ → Stop
stopped n = pick (eqb n 101) Stops.TooLarge (pick (eqb n 102) Stops.SeveralBlocks (Stops.Refused (named n)))

row_back : (p : Part) → stopped (stop_of (Stops.Refused (Why.BadRow p))) ≡ Stops.Refused (Why.BadRow p)
row_back Parts.Wide = refl
row_back Parts.Kp = refl
row_back Parts.S = refl
row_back Parts.H = refl
row_back Parts.W = refl
row_back Parts.B = refl
row_back Parts.P = refl
row_back Parts.Ldpc = refl
row_back Parts.L = refl
row_back Parts.Derived = refl

stop-back : (a : Stop) → stopped (stop_of a) ≡ a
stop-back (Stops.Refused Why.DivisorZero) = refl
stop-back (Stops.Refused Why.OutOfRange) = refl
stop-back (Stops.Refused Why.BadTransmission) = refl
stop-back (Stops.Refused (Why.BadRow p)) = row_back p
stop-back (Stops.Refused Why.BadTables) = refl
stop-back (Stops.Refused Why.Outside) = refl
stop-back (Stops.Refused Why.SamePlace) = refl
stop-back (Stops.Refused Why.WrongLength) = refl
stop-back (Stops.Refused Why.BadCount) = refl
stop-back (Stops.Refused Why.BadSize) = refl
stop-back (Stops.Refused Why.NotBegun) = refl
stop-back Stops.TooLarge = refl
stop-back Stops.SeveralBlocks = refl

pub stop-only : (a b : Stop) → stop_of a ≡ stop_of b → a ≡ b
stop-only = read_back stop_of stopped stop-back

-- two sets that are solved are one, so the block of the one is that of the other
module _ {r : Row} {v : List ℕ} {k t : ℕ} {S : System ℕ} {xs ys us vs : List ℕ} (a : Concluding r v k t S xs ys Solved)
    (b : Concluding r v k t S us vs Solved) where
  same_block : Written (source_octet v r t (take (l_of r * t) a.set)) us vs 0 (k * t)
  same_block =
      let e : take (l_of r * t) b.set ≡ take (l_of r * t) a.set = a.means.0.only (take (l_of r * t) b.set) b.means.0.block b.means.0.fits in
      subst (λ (C : List ℕ). Written (source_octet v r t C) us vs 0 (k * t)) e b.leaves

concluded-once : {r : Row} {v : List ℕ} {k t : ℕ} {S : System ℕ} {xs ys zs : List ℕ}
    (w : Verdict) → Concluding r v k t S xs ys w → Concluding r v k t S xs zs w → ys ≡ zs
concluded-once Solved a b = written_once a.leaves (same_block a b)
concluded-once Contradiction a b = a.leaves ∙ sym b.leaves
concluded-once (Open s) a b = a.leaves ∙ sym b.leaves

-- a delivery comes to one thing, whatever the store held before
pub comes-only : (d xs ys us vs : List ℕ) (o p : Received) → Comes d xs ys o → Comes d us vs p → o ≡ p
comes-only d xs ys us vs (Ok c) (Ok e) a b =
    let x = a.1.2 in
    let y = b.1.2 in
    let q = verdict-once (l_of (row_in d)) (t_of d) (delivered_system d) x.was x.set y.was y.set c.verdict e.verdict x.means y.means in
    ap (λ (u : Verdict). taken u c.size c.passed) q ∙ ap₂ (taken e.verdict) (a.1.0 ∙ sym b.1.0) (a.1.1 ∙ sym b.1.1)
comes-only d xs ys us vs (Ok c) (Err q) a b = absurd (given-not-refused tt (stop_of q) (sym a.0 ∙ b.0))
comes-only d xs ys us vs (Err p) (Ok e) a b = absurd (given-not-refused tt (stop_of p) (sym b.0 ∙ a.0))
comes-only d xs ys us vs (Err p) (Err q) a b = ap Err (stop-only p q (refused-only (stop_of p) (stop_of q) (sym a.0 ∙ b.0)))

store-once : (d xs ys zs : List ℕ) (o : Received) → Comes d xs ys o → Comes d xs zs o → ys ≡ zs
store-once d xs ys zs (Ok c) a b = concluded-once c.verdict a.1.2 b.1.2
store-once d xs ys zs (Err why) a b = a.1 ∙ sym b.1

-- any two results that the contract allows are the same, verdict and store
pub comes-once : (d xs ys zs : List ℕ) (o p : Received) → Comes d xs ys o → Comes d xs zs p → (o ≡ p) × (ys ≡ zs)
comes-once d xs ys zs o p a b =
    let e = comes-only d xs ys xs zs o p a b in
    (e, store-once d xs ys zs o a (subst (Comes d xs zs) (sym e) b))

-- ---- the object

module _ (d : List ℕ) {xs ys us vs : List ℕ} {m n : ℕ} {p q : Passed} (a : Comes d xs ys (taken Solved m p)) (b : Comes d us vs (taken Solved n q)) where
  -- its bytes do not depend on what the store held before
  pub object-once : (x : ℕ) → x < k_of d * t_of d → get_or ys x 0 ≡ get_or vs x 0
  object-once x h = rw zero-add at (a.1.2.leaves.part x h ∙ sym ((same_block a.1.2 b.1.2).part x h))

-- it is no longer than the block
module _ (d : List ℕ) {xs ys : List ℕ} {v : Verdict} {n : ℕ} {p : Passed} (a : Comes d xs ys (taken v n p)) where
  pub object-in : n ≤ k_of d * t_of d
  object-in = omega (arith, a.1.0, ceil-enough (f_of d) (t_of d) (sound d a.0).t-low)

-- ---- what arrived stands in the object

-- packet p, of the block, and byte b of it
module _ (d : List ℕ) (p b : ℕ) (h : p < n_of d) (own : is_own (packet_of d (t_of d) p) ≡ true) (l : esi_of (packet_of d (t_of d) p) < k_of d) (s : b < t_of d)
    (whole : 4128 ≤ length d) where
  abbrev place : ℕ
  place = length (esis_in d (t_of d) p)

  abbrev E : System ℕ
  E = arrival_rows (tables_of d) (row_in d) (k_of d) (t_of d) (esis_of d) (symbols_of d)

  -- its equation is that of its ESI
  row_is : RowOf (tables_of d) (row_in d) E place (esi_of (packet_of d (t_of d) p))
  row_is c u =
      ap (λ (x : ℕ). sent_row (tables_of d) (row_in d) (k_of d) x c) (esi-there d (t_of d) p own (n_of d) h).0
      ∙ ap (λ (x : ℕ). enc_of (tables_of d) (row_in d) x c) (shifted-below (k_of d) (row_in d).kp (esi_of (packet_of d (t_of d) p)) l)

  -- and its symbol is what stands in the packet
  byte-is : E.byte place b ≡ get_or d (packet_at (t_of d) p + 4 + b) 0
  byte-is =
      let all = packets-in (length d) (t_of d) whole in
      let before = symbols-long d (t_of d) p (omega (arith, packet-ends (t_of d) p (n_of d) h)) in
      let e : packet_at (t_of d) p + (4 + b) ≡ packet_at (t_of d) p + 4 + b = omega arith in
      ap (λ (x : ℕ). get_or (symbols_of d) (x + b) 0) (sym before) ∙ (symbol-there d (t_of d) p own b s (n_of d) h all).0
      ∙ get_or-drop 4 (packet_of d (t_of d) p) b 0 ∙ part_at d (packet_at (t_of d) p) (t_of d + 4) (4 + b) (omega arith) ∙ ap (λ (x : ℕ). get_or d x 0) e

  -- byte b of the source symbol that packet p brought
  pub arrivals-stand : {xs ys : List ℕ} {n : ℕ} {q : Passed} → Comes d xs ys (taken Solved n q)
      → get_or ys (esi_of (packet_of d (t_of d) p) * t_of d + b) 0 ≡ get_or d (packet_at (t_of d) p + 4 + b) 0
  arrivals-stand {ys = ys} a =
      let w = a.1.2 in
      let C = take (l_of (row_in d) * t_of d) w.set in
      let i = esi_of (packet_of d (t_of d) p) in
      let arrived = has-arrivals (hdpc_rows (tables_of d) (row_in d)) (row_in d) (tables_of d) (k_of d) (t_of d) (esis_of d) (symbols_of d) _ _ in
      ap (λ (x : ℕ). get_or ys x 0) (sym (zero-add (i * t_of d + b))) ∙ w.leaves.part (i * t_of d + b) (digits_lt l s)
      ∙ ap₂ (λ (x y : ℕ). encoded (tables_of d) (row_in d) x (t_of d) C y) (digits_div i s) (digits_mod i s)
      ∙ encoded-fits (tables_of d) (row_in d) i (t_of d) C E (fits-bytes-fewer arrived w.means.0.fits) place
      (esi-there d (t_of d) p own (n_of d) h).1 row_is b s
      ∙ byte-is
