-- What the words of a state say after a call, and that the intake then holds the stretch with one packet more, or with the rows that are fixed.
-- Assumes nothing.
use mathlib.Core.Path.{◌≡◌, refl, sym, ap, ap₂, ◌∙◌, subst}
use mathlib.Core.Bool.{Bool, true, false}
use mathlib.Core.List.{List, [], ◌∷◌, ◌++◌}
use Prim.Native.Nat.{ℕ, ◌+◌, ◌-◌, ◌*◌, ◌≤◌, ◌<◌}
use native.Mathlib.Decide.{dec_lt}
use native.Mathlib.Omega.{arith}
use borrow.Author.Tests.{eqb-true, ne_eqb}
use lib.Dec.{eqb}
use lib.ListN.{length, get_or, take, drop, length-append, get_or-append}
use lib.Seq.{ext_get_or, get_or-append_seam, get_or-append-add}
use Rattle.field.specs.Choice.{pick}
use Rattle.field.specs.Runs.{Written}
use Rattle.field.proofs.Parts.{part_length, part_at}
use Rattle.headers.specs.Row.{Obeys, l_of}
use Rattle.headers.specs.declared.row.Row.{Row}
use Rattle.linear.specs.System.{System, joined}
use Rattle.linear.specs.Bytes.{Bytes}
use Rattle.linear.proofs.Growth.{contradiction-remains}
use Rattle.linear.proofs.Rows.{only-refl}
use Rattle.elimination.specs.Steps.{StoresRoom}
use Rattle.std.specs.Prelude.{Option, Some, None}
use Rattle.solver.specs.System.{fixed_with, hdpc_rows, sent_row}
use Rattle.solver.proofs.Groups.{has-arrivals}
use Rattle.intake.specs.Taking.{Says, Placed, Adds, single}
use Rattle.intake.specs.State.{Begun, Counts, row_in, k_in, t_in, held_in, mark_in, tables_in, l_in, progress_in}
use Rattle.intake.specs.State.{held_by, mark_by, noted}
use Rattle.intake.specs.Night.{Stretch, Holding, Named, Sent, Packet, Completes, arrived, system_in, taken_of}
use Rattle.intake.proofs.Systems.{Alike, says-alike, alike_self, alike_then, alike-parts, packet-more, system-more, system-whole}

-- ---- the two words that change

-- the others stay
pub record Noted (st st₁ : List ℕ) (q : Option ℕ) (m : ℕ) : Type 0 where
  pub size : length st₁ ≡ length st
  pub row : row_in st₁ ≡ row_in st
  pub k : k_in st₁ ≡ k_in st
  pub t : t_in st₁ ≡ t_in st
  pub tables : tables_in st₁ ≡ tables_in st
  pub held : held_in st₁ ≡ held_by q
  pub mark : mark_in st₁ ≡ mark_by q m

pub noting : (st st₁ : List ℕ) (q : Option ℕ) (m : ℕ) → 1037 ≤ length st → Written (λ i. get_or (noted q m) i 0) st st₁ 11 2 → Noted st st₁ q m
noting st st₁ q m long w = record {
  size = w.size;
  row = rw (
    low 0 (omega arith),
    low 1 (omega arith),
    low 2 (omega arith),
    low 3 (omega arith),
    low 4 (omega arith),
    low 5 (omega arith),
    low 6 (omega arith),
    low 7 (omega arith),
    low 8 (omega arith),
  ) refl;
  k = low 9 (omega arith);
  t = low 10 (omega arith);
  tables = same_tables;
  held = w.part 0 (omega arith);
  mark = w.part 1 (omega arith);
}
  where
    low : (i : ℕ) → i < 11 → get_or st₁ i 0 ≡ get_or st i 0
    low = w.low

    same_tables : take 1024 (drop 13 st₁) ≡ take 1024 (drop 13 st)
    same_tables = ext_get_or 0 _ _
        (part_length st₁ 13 1024 (omega (arith, w.size)) ∙ sym (part_length st 13 1024 (omega arith)))
        (λ i h. let l : i < 1024 = omega (arith, part_length st₁ 13 1024 (omega (arith, w.size))) in
        part_at st₁ 13 1024 i l ∙ w.high (13 + i) (omega arith) ∙ sym (part_at st 13 1024 i l))

-- ---- where the elimination stands then

progress-by : (q : Option ℕ) (m : ℕ) → (m ≡ 3 → q ≡ None) → pick (eqb (mark_by q m) 3) None (Some (held_by q)) ≡ q
progress-by (Some r) m h = go (eqb m 3) refl
  where
    go : (b : Bool) → eqb m 3 ≡ b → pick (eqb m 3) None (Some r) ≡ Some r
    go true e = ap (λ (b : Bool). pick b None (Some r)) e ∙ sym (h (eqb-true m 3 e))
    go false e = ap (λ (b : Bool). pick b None (Some r)) e
progress-by None m h = refl

mark-bounds : (q : Option ℕ) (m : ℕ) → 1 ≤ m → m ≤ 3 → (1 ≤ mark_by q m) × (mark_by q m ≤ 3)
mark-bounds (Some r) m a b = (a, b)
mark-bounds None m a b = (omega arith, omega arith)

module _ (st st₁ : List ℕ) {m : ℕ} (q : Option ℕ) (n : Noted st st₁ q m) where
  pub l-same : l_in st₁ ≡ l_in st
  l-same = ap l_of n.row

  pub room_noted : {a d a₁ d₁ : List ℕ} → StoresRoom (l_in st) (l_in st) (t_in st) a d → length a₁ ≡ length a → length d₁ ≡ length d
      → StoresRoom (l_in st₁) (l_in st₁) (t_in st₁) a₁ d₁
  room_noted {a₁ = a₁} {d₁ = d₁} r p o = record {
    rows = subst (λ (x : ℕ). x ≤ length a₁) (sym (ap₂ ◌*◌ l-same l-same)) (omega (arith, r.rows));
    symbols = subst (λ (x : ℕ). x ≤ length d₁) (sym (ap₂ ◌*◌ l-same n.t)) (omega (arith, r.symbols));
  }

  module _ (clash : m ≡ 3 → q ≡ None) where
    pub progress-noted : progress_in st₁ ≡ q
    progress-noted = ap₂ (λ (x y : ℕ). pick (eqb x 3) None (Some y)) n.mark n.held ∙ progress-by q m clash

    pub begun-noted : (ps ps₁ : List ℕ) → Begun st ps → length ps₁ ≡ length ps → 1 ≤ m → m ≤ 3 → Placed (l_in st) ps₁ q → Begun st₁ ps₁
    begun-noted ps ps₁ b long low high p = record {
      numbers = record {
        size = omega (arith, n.size, b.numbers.size);
        rules = subst Obeys (sym n.row) b.numbers.rules;
        counts = record {
          k-low = omega (arith, n.k, o.k-low);
          k-high = omega (arith, n.k, ap (λ (r : Row). r.kp) n.row, o.k-high);
          t-low = omega (arith, n.t, o.t-low);
          t-high = omega (arith, n.t, o.t-high);
          mark-low = omega (arith, n.mark, bounds.0);
          mark-high = omega (arith, n.mark, bounds.1);
        };
      };
      places = omega (arith, l-same, b.places, long);
      placed = subst (Placed (l_in st₁) ps₁) (sym progress-noted) (subst (λ (x : ℕ). Placed x ps₁ q) (sym l-same) p);
    }
      where
        o : Counts (row_in st).kp (k_in st) (t_in st) (mark_in st)
        o = b.numbers.counts

        bounds : (1 ≤ mark_by q m) × (mark_by q m ≤ 3)
        bounds = mark-bounds q m low high

-- what is said in the words before is said in the words now
pub says-words : (st st₁ : List ℕ) {m : ℕ} (q : Option ℕ) → Noted st st₁ q m → (m ≡ 3 → q ≡ None) → (S : Bool → System ℕ) (ps a d : List ℕ)
    → Says (l_in st) (t_in st) (S (eqb (mark_by q m) 1)) ps a d q → Says (l_in st₁) (t_in st₁) (S (eqb (mark_in st₁) 1)) ps a d (progress_in st₁)
says-words st st₁ {m = m} q n clash S ps a d x =
    subst (Says (l_in st₁) (t_in st₁) (S (eqb (mark_in st₁) 1)) ps a d) (sym (progress-noted st st₁ q n clash))
    (subst (λ (y : ℕ). Says (l_in st₁) (t_in st₁) (S (eqb y 1)) ps a d q) (sym n.mark)
    (subst (λ (y : ℕ). Says (l_in st₁) y (S (eqb (mark_by q m) 1)) ps a d q) (sym n.t)
    (subst (λ (y : ℕ). Says y (t_in st) (S (eqb (mark_by q m) 1)) ps a d q) (sym (l-same st st₁ q n)) x)))

-- ---- a packet more

sent-as : {v v₁ : List ℕ} {r r₁ : Row} {k k₁ : ℕ} (e c : ℕ) → v ≡ v₁ → r ≡ r₁ → k ≡ k₁ → sent_row v r k e c ≡ sent_row v₁ r₁ k₁ e c
sent-as {v} {v₁} {r} {r₁} {k} e c p q o =
    ap (λ (x : List ℕ). sent_row x r k e c) p ∙ ap (λ (x : Row). sent_row v₁ x k e c) q ∙ ap (λ (x : ℕ). sent_row v₁ r₁ x e c) o

pub sent-more : (z : Stretch) (e : ℕ) (s : List ℕ) → Sent z → e < 16777216 → length s ≡ z.t → Bytes s → Sent (arrived z e s)
sent-more z e s h small size bytes = record {
  all = length-append z.symbols s ∙ summed ∙ ap (λ (n : ℕ). n * z.t) (sym (length-append z.esis (e ∷ [])));
  ids = λ i l. id i l (dec_lt i (length z.esis));
  bytes = λ i. octet i (dec_lt i (length z.symbols));
}
  where
    summed : length z.symbols + length s ≡ (length z.esis + 1) * z.t
    summed = omega (arith, h.all, size)

    id : (i : ℕ) → i < length (z.esis ++ (e ∷ [])) → Dec (i < length z.esis) → get_or (z.esis ++ (e ∷ [])) i 0 < 16777216
    id i l (yes b) = rw (get_or-append z.esis (e ∷ []) 0 i b) (h.ids i b)
    id i l (no b) = let q : i ≡ length z.esis = omega (arith, length-append z.esis (e ∷ [])) in rw (q, get_or-append_seam z.esis e [] 0) small

    octet : (i : ℕ) → Dec (i < length z.symbols) → get_or (z.symbols ++ s) i 0 < 256
    octet i (yes b) = rw (get_or-append z.symbols s 0 i b) (h.bytes i)
    octet i (no b) =
        let q : length z.symbols + (i - length z.symbols) ≡ i = omega arith in
        subst (λ (x : ℕ). get_or (z.symbols ++ s) x 0 < 256) q
        (rw (get_or-append-add z.symbols s (i - length z.symbols) 0) (bytes (i - length z.symbols)))

module _ (z : Stretch) (st : List ℕ) (e : ℕ) (s : List ℕ) (named : Named z st) (sent : Sent z) where
  abbrev came-now : System ℕ
  came-now = single (sent_row (tables_in st) (row_in st) (k_in st) e) (λ b. get_or s b 0)

  abbrev came-of : System ℕ
  came-of = single (sent_row z.tables z.row z.k e) (λ b. get_or s b 0)

  now_of : {L T : ℕ} → Alike L T came-now came-of
  now_of = record {
    to = λ i h. (0, omega arith, record { coefs = λ c l. sent-as e c named.tables named.row named.k; bytes = λ b l. refl });
    back = λ i h. (0, omega arith, record { coefs = λ c l. sym (sent-as e c named.tables named.row named.k); bytes = λ b l. refl });
  }

  taken-of : (L : ℕ) (b : Bool) → Alike L z.t (joined (taken_of z b) came-of) (taken_of (arrived z e s) b)
  taken-of L true = packet-more z.tables z.row z.k z.t e z.esis z.symbols s sent.all L
  taken-of L false = system-more z.tables z.row z.k z.t e z.esis z.symbols s sent.all L

  taken-now : (L : ℕ) (b : Bool) → Alike L (t_in st) (joined (taken_of z b) came-now) (taken_of (arrived z e s) b)
  taken-now L b =
      subst (λ (t : ℕ). Alike L t (joined (taken_of z b) came-now) (taken_of (arrived z e s) b)) (sym named.t)
      (alike_then (alike-parts (taken_of z b) came-now (taken_of z b) came-of (alike_self (taken_of z b)) now_of) (taken-of L b))

  -- a clash of what was taken is one of all
  said : (L T : ℕ) (ps a d : List ℕ) (b : Bool) (q : Option ℕ) (m : ℕ) → eqb m 1 ≡ b → Says L T (taken_of (arrived z e s) b) ps a d q
      → Says L T (taken_of (arrived z e s) (eqb (mark_by q m) 1)) ps a d q
  said L T ps a d b (Some r) m q x = subst (λ (c : Bool). Says L T (taken_of (arrived z e s) c) ps a d (Some r)) (sym q) x
  said L T ps a d true None m q x =
      let y = arrived z e s in
      contradiction-remains (has-arrivals (hdpc_rows y.tables y.row) y.row y.tables y.k y.t y.esis y.symbols L T) x
  said L T ps a d false None m q x = x

-- a mark of 3 is a clash
pub marked : (st : List ℕ) → mark_in st ≡ 3 → progress_in st ≡ None
marked st m = ap (λ (z : ℕ). pick (eqb z 3) None (Some (held_in st))) m

-- the packet that was taken, with its row and its symbol
module _ (st ps a d st₁ ps₁ a₁ d₁ : List ℕ) (e : ℕ) (s : List ℕ) (q : Option ℕ) (k : Packet e s st ps a d) (bytes : Bytes s)
    (w : Written (λ i. get_or (noted q (mark_in st)) i 0) st st₁ 11 2)
    (adds : Adds (l_in st) (t_in st) (single (sent_row (tables_in st) (row_in st) (k_in st) e) (λ b. get_or s b 0)) ps a d ps₁ a₁ d₁ (progress_in st) q) where
  n : Noted st st₁ q (mark_in st)
  n = noting st st₁ q (mark_in st) k.begun.numbers.size w

  -- no packet clears the mark of a contradiction
  clash : mark_in st ≡ 3 → q ≡ None
  clash m = adds.stays (marked st m)

  packet-begun : Begun st₁ ps₁
  packet-begun =
      let o = k.begun.numbers.counts in
      begun-noted st st₁ q n clash ps ps₁ k.begun adds.pivots.size o.mark-low o.mark-high adds.placed

  pub packet-holds : (z : Stretch) → Holding z st ps a d → Holding (arrived z e s) st₁ ps₁ a₁ d₁
  packet-holds z h = record {
    begun = packet-begun;
    named = record {
      row = n.row ∙ h.named.row;
      tables = n.tables ∙ h.named.tables;
      k = n.k ∙ h.named.k;
      t = n.t ∙ h.named.t;
    };
    sent = sent-more z e s h.sent k.esi (k.size ∙ h.named.t) bytes;
    room = room_noted st st₁ q n k.room adds.rows.size adds.symbols.size;
    says = in_words (said z st e s h.named h.sent (l_in st) (t_in st) ps₁ a₁ d₁ (eqb (mark_in st) 1) q (mark_in st) refl
        (says-alike ps₁ a₁ d₁ q (taken-now z st e s h.named h.sent (l_in st) (eqb (mark_in st) 1)) (adds.says (taken_of z (eqb (mark_in st) 1)) h.says)));
  }
    where
      in_words : Says (l_in st) (t_in st) (taken_of (arrived z e s) (eqb (mark_by q (mark_in st)) 1)) ps₁ a₁ d₁ q
          → Says (l_in st₁) (t_in st₁) (taken_of (arrived z e s) (eqb (mark_in st₁) 1)) ps₁ a₁ d₁ (progress_in st₁)
      in_words x = says-words st st₁ q n clash (taken_of (arrived z e s)) ps₁ a₁ d₁ x

-- ---- the rows that are fixed

fixed-as : {v v₁ : List ℕ} {r r₁ : Row} {k k₁ : ℕ} → v ≡ v₁ → r ≡ r₁ → k ≡ k₁ → fixed_with (hdpc_rows v r) v r k ≡ fixed_with (hdpc_rows v₁ r₁) v₁ r₁ k₁
fixed-as {v} {v₁} {r} {r₁} {k} {k₁} p q o =
    ap (λ (x : List ℕ). fixed_with (hdpc_rows x r) x r k) p ∙ ap (λ (x : Row). fixed_with (hdpc_rows v₁ x) v₁ x k) q
    ∙ ap (λ (x : ℕ). fixed_with (hdpc_rows v₁ r₁) v₁ r₁ x) o

module _ (st ps a d st₁ ps₁ a₁ d₁ : List ℕ) (q : Option ℕ) (b : Begun st ps) (first : mark_in st ≡ 1)
    (room : StoresRoom (l_in st) (l_in st) (t_in st) a d)
    (adds : Adds (l_in st) (t_in st) (fixed_with (hdpc_rows (tables_in st) (row_in st)) (tables_in st) (row_in st) (k_in st)) ps a d ps₁ a₁ d₁ (progress_in st) q)
    (w : Written (λ i. get_or (noted q 2) i 0) st st₁ 11 2) where
  note : Noted st st₁ q 2
  note = noting st st₁ q 2 b.numbers.size w

  whole : (z : Stretch) → Holding z st ps a d → Says (l_in st) (t_in st) (system_in z) ps₁ a₁ d₁ q
  whole z h = says-alike ps₁ a₁ d₁ q (system-whole (l_in st) (t_in st) z.tables z.row z.k z.t z.esis z.symbols own)
      (adds.says (taken_of z true) early)
    where
      early : Says (l_in st) (t_in st) (taken_of z true) ps a d (progress_in st)
      early = subst (λ (x : ℕ). Says (l_in st) (t_in st) (taken_of z (eqb x 1)) ps a d (progress_in st)) first h.says

      own : Alike (l_in st) (t_in st) (fixed_with (hdpc_rows (tables_in st) (row_in st)) (tables_in st) (row_in st) (k_in st))
          (fixed_with (hdpc_rows z.tables z.row) z.tables z.row z.k)
      own = subst (λ (x : System ℕ). Alike (l_in st) (t_in st) (fixed_with (hdpc_rows (tables_in st) (row_in st)) (tables_in st) (row_in st) (k_in st)) x)
          (fixed-as h.named.tables h.named.row h.named.k) (alike_self _)

  -- with them the mark is 2, or 3
  by-mark : (z : Stretch) (p : Option ℕ) → Says (l_in st) (t_in st) (system_in z) ps₁ a₁ d₁ p
      → Says (l_in st) (t_in st) (taken_of z (eqb (mark_by p 2) 1)) ps₁ a₁ d₁ p
  by-mark z (Some r) x = x
  by-mark z None x = x

  late : ◌≡◌ {A = ℕ} 2 3 → q ≡ None
  late e = absurd (omega (arith, e))

  complete-begun : Begun st₁ ps₁
  complete-begun = begun-noted st st₁ q note late ps ps₁ b adds.pivots.size (omega arith) (omega arith) adds.placed

  complete-holds : (z : Stretch) → Holding z st ps a d → Holding z st₁ ps₁ a₁ d₁
  complete-holds z h = record {
    begun = complete-begun;
    named = record {
      row = note.row ∙ h.named.row;
      tables = note.tables ∙ h.named.tables;
      k = note.k ∙ h.named.k;
      t = note.t ∙ h.named.t;
    };
    sent = h.sent;
    room = room_noted st st₁ q note room adds.rows.size adds.symbols.size;
    says = says-words st st₁ q note late (taken_of z) ps₁ a₁ d₁ (by-mark z q (whole z h));
  }

  pub completes : Completes st ps a d st₁ ps₁ a₁ d₁ q
  completes = record {
    within = record {
      state = record { size = w.size; part = λ i h. refl; low = w.low; high = w.high };
      pivots = adds.pivots;
      rows = adds.rows;
      symbols = adds.symbols;
    };
    placed = adds.placed;
    holds = λ z h. (complete-holds z h, whole z h);
  }

-- ---- where they are taken already

pub completes-now : (st ps a d : List ℕ) → Begun st ps → (mark_in st ≡ 1 → ⊥) → Completes st ps a d st ps a d (progress_in st)
completes-now st ps a d b late = record {
  within = record {
    state = record { size = refl; part = λ i h. refl; low = λ i h. refl; high = λ i h. refl };
    pivots = only-refl;
    rows = only-refl;
    symbols = only-refl;
  };
  placed = b.placed;
  holds = λ z h. (h, subst (λ (x : Bool). Says (l_in st) (t_in st) (taken_of z x) ps a d (progress_in st)) (ne_eqb (mark_in st) 1 late) h.says);
}
