-- What the equations come to that were taken one after the other.
-- Assumes nothing.
use mathlib.Core.Path.{◌≡◌, refl, sym, ap, ◌∙◌, subst}
use mathlib.Core.Logic.{◌⊎◌, inl, inr}
use mathlib.Core.List.{List}
use Prim.Native.Nat.{ℕ, ◌+◌, ◌*◌, ◌≤◌, ◌<◌}
use native.Mathlib.Nat.{mul-le-mul_right}
use native.Mathlib.Omega.{arith}
use native.Mathlib.Decide.{ℕ_discrete}
use lib.ListN.{length, get_or}
use Rattle.field.specs.Runs.{Written}
use Rattle.linear.specs.System.{System, SameEquation, OneOf}
use Rattle.linear.specs.Bytes.{Bytes, cell, stored_system, OctetSymbols, ContradictionBytes, ShortfallBytes}
use Rattle.linear.specs.Rows.{RowCopied, OnlyBelow, behind}
use Rattle.linear.specs.Elimination.{Holds, Stepped, OneMore, alone}
use Rattle.linear.proofs.Rows.{only-refl, only-past, only_then, only-trans, only-more, only_row}
use Rattle.linear.proofs.Keeping.{holds-included, holds-trans, holds_more}
use Rattle.linear.proofs.Elimination.{stepped-none, rank-at-most}
use Rattle.linear.proofs.Finish.{held-denied, stepped-open, stepped-shortfall}
use Rattle.linear.proofs.Growth.{contradiction-remains}
use Rattle.elimination.specs.Steps.{StoresRoom, Pivots, column}
use Rattle.elimination.specs.Taking.{Lent, RoomForOne, Became}
use Rattle.elimination.specs.Settling.{Settles}
use Rattle.elimination.specs.Solving.{Under, Gone, HeldVerdict, Reached, progressed}
use Rattle.elimination.specs.Verdict.{Means, Answered}
use Rattle.elimination.proofs.Steps.{room-kept}
use Rattle.std.specs.Prelude.{Option, Some, None}
use Rattle.elimination.specs.declared.beneath.taking.Taken.{Taken}
use Rattle.elimination.specs.declared.beneath.taking.Taken.TheVariants.{Held, Dependent, Clash}
use Rattle.elimination.specs.declared.verdict.Verdict.{Verdict}
use Rattle.elimination.specs.declared.verdict.Verdict.TheVariants.{Solved, Contradiction, Open}

-- ---- the stores

-- r rows that stand so, of i that have room
pub lent-held : {L T r i : ℕ} (ps : List ℕ) {a d : List ℕ} → r ≤ i → StoresRoom i L T a d → Pivots L ps → Stepped L r (column ps) a d → Lent L T r ps a d
lent-held {L} {T} ps l room places s = record {
  rows = omega (arith, room.rows, mul-le-mul_right L l);
  symbols = omega (arith, room.symbols, mul-le-mul_right T l);
  pivots = omega (arith, rank-at-most s, places.enough);
  below = s.column;
}

pub place-next : {L T r i : ℕ} {ps a d : List ℕ} → r ≤ i → StoresRoom (i + 1) L T a d → Pivots L ps → r < L → RoomForOne L T r ps a d
place-next {L} {T} {r} {i} l room places h =
    let p : (r + 1) * L ≤ (i + 1) * L = mul-le-mul_right L (omega arith) in
    let q : (r + 1) * T ≤ (i + 1) * T = mul-le-mul_right T (omega arith) in
    record { rows = omega (arith, room.rows); symbols = omega (arith, room.symbols); pivots = omega (arith, places.enough) }

-- no equation is taken yet
pub under_none : (L T : ℕ) (ps : List ℕ) {a d : List ℕ} → Bytes a → Bytes d → Under L T 0 0 ps a d a d
under_none L T ps ba bd = record {
  enough = omega arith;
  stands = stepped-none L (column ps) ba bd;
  holds = holds-included (λ i h. absurd (omega arith)) (λ i h. absurd (omega arith));
  rows = only-refl;
  symbols = only-refl;
}

-- ---- one more is taken

-- whatever became of it, nothing past the equations so far changed
pub became-only : (L T : ℕ) {i r : ℕ} (ps a d x y ps₁ a₁ d₁ : List ℕ) → r ≤ i → (k : Taken) → Became L T r ps a d x y ps₁ a₁ d₁ k
    → OnlyBelow ((i + 1) * L) a a₁ × OnlyBelow ((i + 1) * T) d d₁
became-only L T {i} {r} ps a d x y ps₁ a₁ d₁ l Held (h, (c, b, p), q) = (only_row r (i + 1) (omega arith) p.rows, only_row r (i + 1) (omega arith) p.symbols)
became-only L T ps a d x y ps₁ a₁ d₁ l Dependent (s, q) = rw (s.rows, s.symbols) (only-refl, only-refl)
became-only L T ps a d x y ps₁ a₁ d₁ l Clash (s, q) = rw (s.rows, s.symbols) (only-refl, only-refl)

module _ {L T i r : ℕ} {ps a₀ d₀ a d x₀ y₀ : List ℕ} (x y : List ℕ) (u : Under L T i r ps a₀ d₀ a d)
    (cx : RowCopied L 0 i a x₀ x) (cy : RowCopied T 0 i d y₀ y) where
  -- row i stands in the buffers as it did at first
  entry : (w : ℕ) (b₀ b z₀ z : List ℕ) → OnlyBelow (i * w) b₀ b → RowCopied w 0 i b z₀ z → (c : ℕ) → c < w → get_or z c 0 ≡ cell w b₀ i c
  entry w b₀ b z₀ z o s c h =
      let e : 0 * w + c ≡ c = omega arith in
      ap (λ (k : ℕ). get_or z k 0) (sym e) ∙ s.part c h ∙ only-past o (i * w + c) (omega arith)

  abbrev S : System ℕ
  S = stored_system i L T a₀ d₀

  abbrev R : System ℕ
  R = stored_system (i + 1) L T a₀ d₀

  one_more : OneMore L T S x y R
  one_more = record {
    old = λ k h. (k, omega arith, record { coefs = λ c l. refl; bytes = λ t l. refl });
    new = λ k h. (i, omega arith, record { coefs = entry L a₀ a x₀ x u.rows cx; bytes = entry T d₀ d y₀ y u.symbols cy });
    only = λ k h. go k h (ℕ_discrete k i);
  }
    where
      go : (k : ℕ) → k < i + 1 → Dec (k ≡ i) → OneOf L T R k S ⊎ SameEquation L T R k (alone x y) 0
      go k h (yes e) = inr (record {
        coefs = λ c l. ap (λ (z : ℕ). cell L a₀ z c) e ∙ sym (entry L a₀ a x₀ x u.rows cx c l);
        bytes = λ t l. ap (λ (z : ℕ). cell T d₀ z t) e ∙ sym (entry T d₀ d y₀ y u.symbols cy t l);
      })
      go k h (no n) = inl (k, omega arith, record { coefs = λ c l. refl; bytes = λ t l. refl })

  -- n are held now
  under : (n : ℕ) (ps₁ a₁ d₁ : List ℕ) → n ≤ i + 1 → Stepped L n (column ps₁) a₁ d₁ → Holds n L T R a₁ d₁
      → OnlyBelow ((i + 1) * L) a a₁ × OnlyBelow ((i + 1) * T) d d₁ → Under L T (i + 1) n ps₁ a₀ d₀ a₁ d₁
  under n ps₁ a₁ d₁ l s h (ra, rd) = record {
    enough = l;
    stands = s;
    holds = h;
    rows = only-trans (only-more (mul-le-mul_right L (omega arith)) u.rows) ra;
    symbols = only-trans (only-more (mul-le-mul_right T (omega arith)) u.symbols) rd;
  }

  module _ (lent : Lent L T r ps a d) where
    more : Holds (r + 1) L T R (behind L r a x) (behind T r d y)
    more = holds_more lent.rows lent.symbols u.holds one_more

    pub gone : (ps₁ a₁ d₁ : List ℕ) (k : Taken) → Became L T r ps a d x y ps₁ a₁ d₁ k → Gone L T (i + 1) ps₁ a₀ d₀ a₁ d₁ (progressed r k)
    gone ps₁ a₁ d₁ Held (h, p, q) =
        let j = q u.stands in
        under (r + 1) ps₁ a₁ d₁ (omega (arith, u.enough)) j.stands (j.says R more) (became-only L T ps a d x y ps₁ a₁ d₁ u.enough Held (h, p, q))
    gone ps₁ a₁ d₁ Dependent (s, q) =
        rw (s.pivots, s.rows, s.symbols) (under r ps a d (omega (arith, u.enough)) u.stands ((q u.stands).says R more) (only-refl, only-refl))
    gone ps₁ a₁ d₁ Clash (s, q) = (q u.stands).none R more

-- ---- all are taken

-- one more row changed, of m, after the first i
pub only-on : (w : ℕ) {i m : ℕ} {a a₁ a₂ : List ℕ} → i < m → OnlyBelow (i * w) a a₁ → OnlyBelow ((i + 1) * w) a₁ a₂ → OnlyBelow (m * w) a a₂
only-on w {i} {m} h old new =
    let before : i * w ≤ m * w = mul-le-mul_right w (omega arith) in
    let one : (i + 1) * w ≤ m * w = mul-le-mul_right w (omega arith) in
    only-trans (only-more before old) (only-more one new)

-- and none fits all of them where none fits those
pub gone-more : (L T : ℕ) {i m : ℕ} (a₀ d₀ : List ℕ) → i ≤ m → ContradictionBytes L T (stored_system i L T a₀ d₀)
    → ContradictionBytes L T (stored_system m L T a₀ d₀)
gone-more L T a₀ d₀ l c = contradiction-remains (λ k h. (k, omega arith, record { coefs = λ c l. refl; bytes = λ t l. refl })) c

-- where the i-th is the last of those
pub gone_on : (L T : ℕ) {i m : ℕ} (a₀ d₀ : List ℕ) → i < m → ContradictionBytes L T (stored_system (i + 1) L T a₀ d₀)
    → ContradictionBytes L T (stored_system m L T a₀ d₀)
gone_on L T {i} a₀ d₀ l c = gone-more L T {i = i + 1} a₀ d₀ (omega arith) c

-- there is room as before, and the held rows stand in it
pub taken_in : {M L T : ℕ} {a d a₁ d₁ : List ℕ} → StoresRoom M L T a d → OnlyBelow (M * L) a a₁ × OnlyBelow (M * T) d d₁ → StoresRoom M L T a₁ d₁
taken_in room (ra, rd) = room-kept room ra.size rd.size

pub pivots-kept : {L : ℕ} {ps ps₁ : List ℕ} → Pivots L ps → length ps₁ ≡ length ps → Pivots L ps₁
pivots-kept p e = record { enough = omega (arith, p.enough, e); small = p.small }

pub reached : {M L T : ℕ} {ps a d : List ℕ} (a₀ d₀ : List ℕ) (p : Option ℕ) → StoresRoom M L T a d → Pivots L ps → Gone L T M ps a₀ d₀ a d p
    → Reached L T ps a d p
reached {ps = ps} a₀ d₀ (Some r) room places u = lent-held ps u.enough room places u.stands
reached a₀ d₀ None room places u = tt

-- what is left of the stores when their used parts were made 0, with the verdict v handed on as w
abbrev Cleared : (M L T : ℕ) (a d a₁ d₁ : List ℕ) (v w : Verdict) → Type 0
Cleared M L T a d a₁ d₁ v w = Written (λ _. 0) a a₁ 0 (M * L) × (Written (λ _. 0) d d₁ 0 (M * T) × (w ≡ v))

-- what no set fits stays so for every system that the stores held
pub answered-clash : {M L T : ℕ} (a d o : List ℕ) {a₂ d₂ a₁ d₁ : List ℕ} {w : Verdict} → Bytes d → ContradictionBytes L T (stored_system M L T a d)
    → OnlyBelow (M * L) a a₂ × OnlyBelow (M * T) d d₂ → Cleared M L T a₂ d₂ a₁ d₁ Contradiction w → Answered M L T a d o a₁ d₁ o w
answered-clash a d o bd u (ra, rd) (wa, (wd, is)) =
    rw is (record { answer = λ S small first. (held-denied first bd u, refl); rows = only_then ra wa; symbols = only_then rd wd })

-- what r held equations come to, of any system that they say
pub means-held : {L T r : ℕ} (ps a d o : List ℕ) {o₁ : List ℕ} (S : System ℕ) → 0 < T → Stepped L r (column ps) a d → Settles L T r ps a d o o₁
    → OctetSymbols T S → Holds r L T S a d → (w : Verdict) → HeldVerdict L r w → Means L T S o o₁ w
means-held ps a d o S pos stands e small holds Solved full = (e.solved full pos stands S small holds, e.past)
means-held ps a d o S pos stands e small holds Contradiction q = absurd q
means-held {L} {T} ps a d o S pos stands e small holds (Open s) (short, is) =
    (stepped-open stands holds small pos short, subst (ShortfallBytes L T S) (sym is) (stepped-shortfall stands holds), e.short short)

-- so in the stores a₂ and d₂
pub answered-held : {M L T r : ℕ} (ps a d o a₂ d₂ : List ℕ) {a₁ d₁ o₁ : List ℕ} (v : Verdict) {w : Verdict} → 0 < T → Under L T M r ps a d a₂ d₂
    → Settles L T r ps a₂ d₂ o o₁ → HeldVerdict L r v → Cleared M L T a₂ d₂ a₁ d₁ v w → Answered M L T a d o a₁ d₁ o₁ w
answered-held ps a d o a₂ d₂ v pos u e h (wa, (wd, is)) =
    rw is (record {
      answer = λ S small first. means-held ps a₂ d₂ o S pos u.stands e small (holds-trans first u.holds) v h;
      rows = only_then u.rows wa;
      symbols = only_then u.symbols wd;
    })
