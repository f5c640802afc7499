-- One equation against the held ones: the held rows go off it, and it is held, or says nothing new, or cannot be met.
-- Assumes nothing.
use mathlib.Core.Path.{◌≡◌, refl, sym, ap, ap₂, ◌∙◌}
use mathlib.Core.Bool.{true, false}
use mathlib.Core.Logic.{◌≢◌, ◌⊎◌, inl, inr}
use mathlib.Core.List.{List}
use Prim.Native.Nat.{ℕ, ◌+◌, ◌*◌, ◌≤◌, ◌<◌}
use native.Mathlib.Nat.{zero-add, pos_of_ne-zero}
use native.Mathlib.Omega.{arith}
use native.Mathlib.Decide.{ℕ_discrete, dec_lt}
use lib.Bits.{xor_lt}
use lib.ListN.{length, get_or, set, length-set}
use lib.Seq.{get_or-set_same, get_or-set_other}
use Rattle.field.specs.Octet.{plus, times, inverse}
use Rattle.field.specs.Runs.{zero_from}
use Rattle.field.proofs.Laws.{times-lt, times_zero, times-comm, inverse-times}
use Rattle.field.proofs.Writing.{written_as}
use Rattle.field.proofs.Zeros.{each-zero, some-other}
use Rattle.linear.specs.Index.{Col}
use Rattle.linear.specs.Span.{InSpan, Within}
use Rattle.linear.specs.System.{System, equation}
use Rattle.linear.specs.Octets.{octets, Octet, oct}
use Rattle.linear.specs.Bytes.{Bytes, cell, stored_system, in_octets}
use Rattle.linear.specs.Rows.{RowAdded, RowTimes, RowCopied, behind}
use Rattle.linear.specs.Elimination.{Holds, Stepped}
use Rattle.linear.proofs.Span.{span-member, span-zero, span-eq, within-trans}
use Rattle.linear.proofs.Octets.{oct-zero}
use Rattle.linear.proofs.Rows.{row_other, bytes-written}
use Rattle.linear.proofs.Behind.{behind-new, behind-row, behind-bytes, behind-written}
use Rattle.linear.proofs.Elimination.{stepped-agree, stepped-more, off-more, room}
use Rattle.linear.proofs.Keeping.{keeps-refl, keeps-trans, keeps-added, keeps-scaled, holds_kept, holds_agree}
use Rattle.linear.proofs.Finish.{clash}
use Rattle.elimination.specs.Steps.{Passed, column}
use Rattle.elimination.specs.Taking.{Lent, RoomForOne, Wide, Onto, OntoFrom, Times, Swept, Sought, Fresh, PutIn, Lodged, Still, Followed, Denied}
use Rattle.elimination.proofs.Buffers.{written-long, onto-all}
open octets use {𝟘}

-- ---- the held rows go off the equation

module _ {L T r : ℕ} {ps a d : List ℕ} (lent : Lent L T r ps a d) where
  pub swept-begin : (x y : List ℕ) → Bytes x → Bytes y → Swept L T r 0 ps a d x y x y
  swept-begin x y bx by = record { gone = λ j h. absurd (omega arith); keeps = keeps-refl; row-bytes = bx; symbol-bytes = by }

  -- it is 0 at the next pivots already
  pub swept-past : {k j : ℕ} {x y x₁ y₁ : List ℕ} → Passed x₁ ps k r j → Swept L T r k ps a d x y x₁ y₁ → Swept L T r j ps a d x y x₁ y₁
  swept-past {k} {j} {x₁ = x₁} p s = record { gone = λ i h. go i h (dec_lt i k); keeps = s.keeps; row-bytes = s.row-bytes; symbol-bytes = s.symbol-bytes }
    where
      go : (i : ℕ) → i < j → Dec (i < k) → get_or x₁ (column ps i) 0 ≡ 0
      go i h (yes l) = s.gone i l
      go i h (no l) = p.zeros i (omega arith) h

  -- held row k went onto a buffer: so it did onto the row behind the held ones
  added-behind : (w k f : ℕ) (b : List ℕ) {z z₁ : List ℕ} → r * w ≤ length b → k < r → Onto w k f b z z₁ → RowAdded w r k f (behind w r b z) (behind w r b z₁)
  added-behind w k f b {z} fits h s = behind-written w r b fits s
      (λ c l. ap₂ (λ (u v : ℕ). plus u (times f v)) (sym (behind-new w r b z fits c)) (sym (behind-row w r b z fits k h c l)))

  onto-bytes : (w k f : ℕ) (b : List ℕ) {z z₁ : List ℕ} → Bytes z → Onto w k f b z z₁ → Bytes z₁
  onto-bytes w k f b {z} bz s = bytes-written bz (λ c h. xor_lt 8 (get_or z c 0) (times f (cell w b k c)) (bz c) (times-lt f (cell w b k c))) s

  -- held row k went off it, from its pivot or a column before it on
  pub swept-row : {k f : ℕ} (s : ℕ) {x y x₁ y₁ x₂ y₂ : List ℕ} → Stepped L r (column ps) a d → k < r → f ≡ get_or x₁ (column ps k) 0 → s ≤ column ps k
      → OntoFrom L k s f a x₁ x₂ → Onto T k f d y₁ y₂ → Swept L T r k ps a d x y x₁ y₁ → Swept L T r (k + 1) ps a d x y x₂ y₂
  swept-row {k} {f} s {x₁ = x₁} {x₂ = x₂} t h e b from sd u =
      let sa : Onto L k f a x₁ x₂ = onto-all k s f a x₁ (omega (arith, b, t.column k h)) (λ c l. t.low k h c (omega arith)) from in
      record {
        gone = off-more x₁ x₂ t h u.row-bytes e (λ c l. ap (λ (m : ℕ). get_or x₂ m 0) (sym (zero-add c)) ∙ sa.part c l) u.gone;
        keeps = keeps-trans u.keeps
            (keeps-added r k f (omega arith) (λ q. omega arith) (added-behind L k f a lent.rows h sa) (added-behind T k f d lent.symbols h sd));
        row-bytes = onto-bytes L k f a u.row-bytes sa;
        symbol-bytes = onto-bytes T k f d u.symbol-bytes sd;
      }

-- ---- the equation is held

-- copied to place r, it stands there as it stood behind the held rows
copied_behind : (w r : ℕ) (x : List ℕ) {a a₁ : List ℕ} → r * w ≤ length a → RowCopied w r 0 x a a₁ → (i : ℕ) → i < r + 1 → (c : ℕ) → c < w
    → cell w a₁ i c ≡ cell w (behind w r a x) i c
copied_behind w r x {a} {a₁} fits s i h c l = go (ℕ_discrete i r)
  where
    go : Dec (i ≡ r) → cell w a₁ i c ≡ cell w (behind w r a x) i c
    go (yes e) =
        let q : 0 * w + c ≡ c = omega arith in
        ap (λ (z : ℕ). cell w a₁ z c) e ∙ s.part c l ∙ ap (λ (z : ℕ). get_or x z 0) q ∙ sym (behind-new w r a x fits c)
        ∙ ap (λ (z : ℕ). cell w (behind w r a x) z c) (sym e)
    go (no n) = row_other r s i n c l ∙ sym (behind-row w r a x fits i (omega arith) c l)

times-behind : (w r f : ℕ) (a : List ℕ) {x x₁ : List ℕ} → r * w ≤ length a → length x ≡ w → Times f x x₁ → RowTimes w r f (behind w r a x) (behind w r a x₁)
times-behind w r f a {x} fits l s = behind-written w r a fits (written-long l s) (λ c h. ap (times f) (sym (behind-new w r a x fits c)))

pub lodged : {L T r c : ℕ} {ps a d x y x₁ y₁ a₁ d₁ : List ℕ} → RoomForOne L T r ps a d → Wide L T x y → c < L → Bytes x
    → Times (inverse (get_or x c 0)) x x₁ → Times (inverse (get_or x c 0)) y y₁ → RowCopied L r 0 x₁ a a₁ → RowCopied T r 0 y₁ d d₁
    → Bytes a₁ → Bytes d₁ → Lodged L T r c ps a d x y (set ps r c) a₁ d₁
lodged {L} {T} {r} {c} {ps} {a} {d} {x} {y} {x₁} {y₁} {a₁} {d₁} place wide hc bx tx ty ca cd ba bd = record { stands = stands'; says = says' }
  where
    fa : r * L ≤ length a
    fa = omega (arith, place.rows)

    fd : r * T ≤ length d
    fd = omega (arith, place.symbols)

    f : ℕ
    f = inverse (get_or x c 0)

    -- entry k of the row that is held
    entry : (k : ℕ) → k < L → cell L a₁ r k ≡ times f (get_or x k 0)
    entry k h =
        copied_behind L r x₁ fa ca r (omega arith) k h ∙ behind-new L r a x₁ fa k ∙ ap (λ (m : ℕ). get_or x₁ m 0) (sym (zero-add k))
        ∙ tx.part k (omega (arith, wide.row))

    zero-entry : (k : ℕ) → k < L → get_or x k 0 ≡ 0 → cell L a₁ r k ≡ 0
    zero-entry k h e = entry k h ∙ ap (times f) e ∙ times_zero f

    undoes : get_or x c 0 ≢ 0 → times f (get_or x c 0) ≡ 1
    undoes nz = inverse-times (get_or x c 0) (pos_of_ne-zero nz) (bx c)

    before : (i : ℕ) → i < r → (k : ℕ) → k < L → cell L a₁ i k ≡ cell L a i k
    before i h k l = row_other r ca i (λ e. omega arith) k l

    stands' : Fresh r c ps x → Stepped L r (column ps) a d → Stepped L (r + 1) (column (set ps r c)) a₁ d₁
    stands' n s = stepped-more (column ps) (column (set ps r c))
        (λ k h. get_or-set_other ps r k c 0 (λ e. omega arith)) (get_or-set_same ps r c 0 place.pivots) hc
        (entry c hc ∙ undoes n.other) (λ k h. zero-entry k (omega arith) (n.low k h)) (λ k h. zero-entry (column ps k) (s.column k h) (n.gone k h))
        (stepped-agree before ba bd s)

    says' : get_or x c 0 ≢ 0 → (S : System ℕ) → Holds (r + 1) L T S (behind L r a x) (behind T r d y) → Holds (r + 1) L T S a₁ d₁
    says' nz S h = holds_agree (copied_behind L r x₁ fa ca) (copied_behind T r y₁ fd cd) (holds_kept h
        (keeps-scaled r f (get_or x c 0) (omega arith) (times-comm (get_or x c 0) f ∙ undoes nz)
        (times-behind L r f a fa wide.row tx) (times-behind T r f d fd wide.symbol ty)))

-- nothing else changed
pub put_in : {L T r : ℕ} (c : ℕ) (x₁ y₁ : List ℕ) {ps a d a₁ d₁ : List ℕ} → RoomForOne L T r ps a d → RowCopied L r 0 x₁ a a₁ → RowCopied T r 0 y₁ d d₁
    → PutIn L T r c ps a d (set ps r c) a₁ d₁
put_in {r = r} c x₁ y₁ {ps = ps} place ca cd = record {
  rows = written_as ca (λ k h. sym (ca.part k h));
  symbols = written_as cd (λ k h. sym (cd.part k h));
  pivots = length-set ps r c;
  old = λ k n. get_or-set_other ps r k c 0 n;
  new = get_or-set_same ps r c 0 place.pivots;
}

-- ---- or it depends on the held ones

pub still : (ps a d : List ℕ) → Still ps a d ps a d
still ps a d = record { pivots = refl; rows = refl; symbols = refl }

module _ {L T r : ℕ} {ps a d x y x₁ y₁ : List ℕ} (lent : Lent L T r ps a d) (t : Stepped L r (column ps) a d) (s : Swept L T r r ps a d x y x₁ y₁) where
  -- no column was found, or none could be
  row_zero : {c : ℕ} → Sought L r x₁ c → L ≤ c → (k : ℕ) → k < L → get_or x₁ k 0 ≡ 0
  row_zero {c} q h k l = go (dec_lt r L) (ℕ_discrete (get_or x₁ k 0) 0)
    where
      go : Dec (r < L) → Dec (get_or x₁ k 0 ≡ 0) → get_or x₁ k 0 ≡ 0
      go v (yes e) = e
      go (yes v) (no n) = (q.first v).zeros k (omega arith) (omega arith)
      go (no v) (no n) = absurd (let u : r < L = room x₁ k t s.gone l n in omega arith)

  -- the held equations, and with the one that came behind them
  abbrev held : ℕ → Col L ⊎ Col T → Octet
  held = equation L T (in_octets (stored_system r L T a d))

  abbrev all : ℕ → Col L ⊎ Col T → Octet
  all = equation L T (in_octets (stored_system (r + 1) L T (behind L r a x₁) (behind T r d y₁)))

  before : (i : ℕ) → i < r → (j : Col L ⊎ Col T) → held i j ≡ all i j
  unfolding equation
  before i h (inl c) = ap oct (sym (behind-row L r a x₁ lent.rows i h c.0 c.1))
  before i h (inr b) = ap oct (sym (behind-row T r d y₁ lent.symbols i h b.0 b.1))

  module _ (za : (k : ℕ) → k < L → get_or x₁ k 0 ≡ 0) where
    last : (k : ℕ) → k < L → cell L (behind L r a x₁) r k ≡ 0
    last k h = behind-new L r a x₁ lent.rows k ∙ za k h

    -- its symbol is what they make of it
    module _ (zd : (b : ℕ) → b < T → get_or y₁ b 0 ≡ 0) where
      zero-last : (j : Col L ⊎ Col T) → all r j ≡ 𝟘
      unfolding equation
      zero-last (inl c) = ap oct (last c.0 c.1) ∙ oct-zero
      zero-last (inr b) = ap oct (behind-new T r d y₁ lent.symbols b.0 ∙ zd b.0 b.1) ∙ oct-zero

      dropped : Within octets (r + 1) all r held
      dropped i h = go (ℕ_discrete i r)
        where
          go : Dec (i ≡ r) → InSpan octets r held (all i)
          go (yes e) = span-zero octets r held (λ j. ap (λ (z : ℕ). all z j) e ∙ zero-last j)
          go (no n) = span-eq octets (λ j. sym (before i (omega arith) j)) (span-member octets r held i (omega arith))

      followed : Followed L T r a d x y
      followed = record {
        says = λ S h.
            let k = holds_kept {S = S} h s.keeps in
            record { to = λ i l. span-eq octets (before i l) (k.to i (omega arith)); back = within-trans octets k.back dropped };
      }

    denied : (b : ℕ) → b < T → get_or y₁ b 0 ≢ 0 → Denied L T r a d x y
    denied b l nz = record {
      none = λ S h. clash r b (holds_kept {S = S} h s.keeps) (behind-bytes T r d y₁ lent.symbols t.symbol-bytes s.symbol-bytes) (omega arith) l last
          (λ e. nz (sym (behind-new T r d y₁ lent.symbols b) ∙ e));
    }

  pub take-followed : {c : ℕ} → Sought L r x₁ c → L ≤ c → zero_from y₁ 0 T ≡ true → Followed L T r a d x y
  take-followed q h z =
      followed (row_zero q h) (λ k i. ap (λ (j : ℕ). get_or y₁ j 0) (sym (zero-add k)) ∙ each-zero (λ (j : ℕ). get_or y₁ (0 + j) 0) T z k i)

  pub take-denied : {c : ℕ} → Sought L r x₁ c → L ≤ c → zero_from y₁ 0 T ≡ false → Denied L T r a d x y
  take-denied q h z =
      let o = some-other (λ (j : ℕ). get_or y₁ (0 + j) 0) T z in
      denied (row_zero q h) o.0 o.1 (λ e. o.2 (ap (λ (j : ℕ). get_or y₁ j 0) (zero-add o.0) ∙ e))
