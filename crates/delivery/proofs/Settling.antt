-- From what the intake answers to what comes of a delivery.
-- Assumes nothing.
use mathlib.Core.Path.{◌≡◌, refl, sym, ap, ap₂, ◌∙◌, subst}
use mathlib.Core.Bool.{Bool, true, false, not}
use mathlib.Core.List.{List, [], ◌∷◌, ◌++◌}
use Rattle.std.specs.Prelude.{Result, Ok, Err}
use Prim.Native.Nat.{ℕ, ◌+◌, ◌-◌, ◌*◌, ◌≤◌, ◌<◌, ◌^◌}
use native.Mathlib.Nat.{mul-le-mul, mul-le-mul_right}
use native.Mathlib.Numerals.{add-one}
use native.Mathlib.Omega.{arith}
use borrow.Author.Tests.{le-ltb, eq-eqb, ne_eqb, lt-leb}
use lib.Dec.{eqb}
use lib.ListN.{length, take, drop, length-drop}
use lib.Seq.{length-take-le, take_all}
use Rattle.field.specs.Answer.{Outcome, given, unless, code_of}
use Rattle.field.specs.Choice.{pick}
use Rattle.field.specs.Runs.{Written}
use Rattle.field.specs.declared.refusal.Refusal.{Refusal}
use Rattle.field.proofs.Answers.{given-not-refused}
use Rattle.field.proofs.Parts.{part_length}
use Rattle.headers.specs.Headers.{id_at}
use Rattle.headers.specs.Row.{Obeys, l_of}
use Rattle.headers.specs.Told.{Told}
use Rattle.headers.specs.declared.row.Row.{Row}
use Rattle.headers.specs.Quotient.{ceil}
use Rattle.headers.specs.declared.payload_id.PayloadId.{PayloadId}
use Rattle.headers.specs.declared.transmission.ObjectTransmissionInformation.{ObjectTransmissionInformation}
use Rattle.headers.proofs.Bytes.{number_lt}
use Rattle.headers.proofs.Quotient.{ceil-enough}
use Rattle.headers.proofs.Rules.{obeyed}
use Rattle.linear.specs.Bytes.{Bytes}
use Rattle.elimination.specs.declared.verdict.Verdict.{Verdict}
use Rattle.intake.specs.Night.{Admitted, Asks, Begins, Holding, Named, Stretch, Takes, arrived, askable, beginnable, fresh, takable}
use Rattle.intake.specs.State.{Begun, k_in, l_in, row_in as State·row_in, t_in, tables_in}
use Rattle.intake.proofs.Calls.{question-passed}
use Rattle.delivery.specs.Layout.{info_of, row_in, entry_at, tables_of, f_of, k_of, t_of, n_of, count_of, left_of}
use Rattle.delivery.specs.Layout.{is_own, esis_in, symbols_in, others_in, packet_of, passed_of, esi_of, symbol_of}
use Rattle.delivery.specs.Screen.{screen}
use Rattle.delivery.specs.Received.{Comes, Leaves, Rebuildable, Received, taken}
use Rattle.delivery.specs.Hearing.{ConcludesHeld, HearsMore, Held, Restorable, Roomy, hearing, stretch_at, stretch_of}
use Rattle.delivery.specs.declared.beneath.receiver.Memory.{Memory}
use Rattle.delivery.specs.declared.beneath.packets.Passed.{Passed}
use Rattle.delivery.proofs.Lists.{tabulated}
use Rattle.delivery.proofs.Screening.{Sound}
use Rattle.delivery.proofs.Gathering.{others-more}

-- what was left for a verdict, under another name of it
pub leaves-as : (v : List ℕ) (r : Row) (k t : ℕ) (C xs ys : List ℕ) (w : Verdict) {u : Verdict} → u ≡ w → Leaves v r k t C xs ys w → Leaves v r k t C xs ys u
leaves-as v r k t C xs ys w e h = subst (Leaves v r k t C xs ys) (sym e) h

-- ---- a delivery that passes the screen

module _ (d : List ℕ) (h : Sound d) where
  pub head-12 : 12 ≤ length d
  head-12 = omega (arith, h.whole)

  pub head-32 : 32 ≤ length d
  head-32 = omega (arith, h.whole)

  pub t_some : {t : ℕ} → t ≡ t_of d → 0 < t
  t_some e = omega (arith, h.t-low)

  pub k-32 : {k : ℕ} → k ≡ k_of d → k < 2 ^ 32
  k-32 e = omega (arith, h.row.k-high, h.row.rules.ranges.kp-16)

  pub k-is : {o : ObjectTransmissionInformation} {k t : ℕ} → o ≡ info_of d → t ≡ o.symbol_size → k ≡ ceil o.transfer_length t → k ≡ k_of d
  k-is {o} eo et ek = ek ∙ ap (ceil o.transfer_length) et ∙ ap (λ (x : ObjectTransmissionInformation). ceil x.transfer_length x.symbol_size) eo

  -- its object fits the program's store
  pub object-fits : f_of d ≤ 307200
  object-fits =
      let k = mul-le-mul {n₁ = k_of d} {m₁ = t_of d} {n₂ = 300} {m₂ = 1024} (omega (arith, h.row.k-high, h.row.l-high)) h.row.t-high in
      omega (arith, ceil-enough (f_of d) (t_of d) h.t-low)

pub tables-are : (d : List ℕ) {xs ys : List ℕ} → Written (entry_at d) xs ys 0 1024 → length xs ≡ 1024 → ys ≡ tables_of d
unfolding tables_of
tables-are d {xs} {ys} w e = sym (take_all 1024 ys (omega (arith, w.size))) ∙ tabulated w (omega arith)

-- ---- it is begun

module _ (d : List ℕ) (h : Sound d) {r : Row} (v : List ℕ) {k t : ℕ} (er : r ≡ row_in d) (all : length v ≡ 1024) (ek : k ≡ k_of d) (et : t ≡ t_of d)
    (st ps a b : List ℕ) (m : Roomy (length st) (length ps) (length a) (length b)) where
  abbrev may_begin : Row → ℕ → ℕ → Outcome (Unit {0})
  may_begin q x y = beginnable q (length v) x y (length st) (length ps) (length a) (length b)

  -- nothing refuses it
  begins : may_begin (row_in d) (k_of d) (t_of d) ≡ given tt
  begins =
      let rows = mul-le-mul {n₁ = l_of (row_in d)} {m₁ = l_of (row_in d)} {n₂ = 300} {m₂ = 300} h.row.l-high h.row.l-high in
      let values = mul-le-mul {n₁ = l_of (row_in d)} {m₁ = t_of d} {n₂ = 300} {m₂ = 1024} h.row.l-high h.row.t-high in
      simp (
        obeyed h.row.rules,
        eq-eqb (length v) 1024 all,
        le-ltb (k_of d) 1 h.row.k-low,
        le-ltb (row_in d).kp (k_of d) h.row.k-high,
        ne_eqb (t_of d) 0 (omega (arith, h.t-low)),
        le-ltb (length a) (l_of (row_in d) * l_of (row_in d)) (omega (arith, rows, m.rows-room)),
        le-ltb (length b) (l_of (row_in d) * t_of d) (omega (arith, values, m.values-room)),
        le-ltb (length st) 1037 m.state-room,
        le-ltb (length ps) (l_of (row_in d)) (omega (arith, h.row.l-high, m.pivots-room)),
      )

  pub begin-fine : beginnable r (length v) k t (length st) (length ps) (length a) (length b) ≡ given tt
  begin-fine = ap (λ (q : Row). may_begin q k t) er ∙ ap₂ (may_begin (row_in d)) ek et ∙ begins

  pub begin-not-refused : {st₁ : List ℕ} (why : Refusal) → Begins r v k t st ps a b st₁ (Err why) → ⊥
  begin-not-refused why u = given-not-refused tt (code_of why) (sym begin-fine ∙ u.0)

  -- and nothing was heard
  pub begin-holds : {st₁ : List ℕ} → v ≡ tables_of d → Begins r v k t st ps a b st₁ (Ok tt) → Holding (stretch_at d 0) st₁ ps a b
  unfolding esis_in symbols_in
  begin-holds {st₁} ev u =
      let h1 = subst (λ (q : Row). Holding (fresh q v k t) st₁ ps a b) er u.2 in
      let h2 = subst (λ (q : List ℕ). Holding (fresh (row_in d) q k t) st₁ ps a b) ev h1 in
      let h3 = subst (λ (q : ℕ). Holding (fresh (row_in d) (tables_of d) q t) st₁ ps a b) ek h2 in
      subst (λ (q : ℕ). Holding (fresh (row_in d) (tables_of d) (k_of d) q) st₁ ps a b) et h3

-- ---- a call on what is held

-- it is answered as the refusals of an intake that was begun say
admits : {st ps : List ℕ} {o x : Outcome (Unit {0})} → Admitted st ps o x → Begun st ps → x ≡ o
admits {st} {ps} {o} {x} u b = go u.since u.told u.answer
  where
    go : (s : Bool) → Told s (Begun st ps) → x ≡ unless (not s) 14 o → x ≡ o
    go true t e = e
    go false t e = absurd (t b)

module _ (z : Stretch) (st ps a d : List ℕ) (h : Holding z st ps a d) where
  packet-fine : (e : ℕ) (s : List ℕ) → e < 16777216 → length s ≡ z.t → takable st e (length s) (length a) (length d) ≡ given tt
  packet-fine e s l q =
      simp (
        lt-leb 16777216 e l,
        eq-eqb (length s) (t_in st) (q ∙ sym h.named.t),
        le-ltb (length a) (l_in st * l_in st) h.room.rows,
        le-ltb (length d) (l_in st * t_in st) h.room.symbols,
      )

  pub packet-held : (e : ℕ) (s st₁ ps₁ a₁ d₁ : List ℕ) (x : Result (Unit {0}) Refusal) → e < 16777216 → length s ≡ z.t → Takes e s st ps a d st₁ ps₁ a₁ d₁ x
      → Holding (arrived z e s) st₁ ps₁ a₁ d₁
  packet-held e s st₁ ps₁ a₁ d₁ (Ok _) l q u = u.memory.1 z h
  packet-held e s st₁ ps₁ a₁ d₁ (Err why) l q u =
      absurd (given-not-refused tt (code_of why) (sym (packet-fine e s l q) ∙ sym (admits u.admitted h.begun)))

  pub question-held : {o st₁ ps₁ a₁ d₁ o₁ : List ℕ} (why : Refusal) → length d ≤ length o → Asks st ps a d o st₁ ps₁ a₁ d₁ o₁ (Err why) → ⊥
  question-held {o} why l u =
      let fine : askable st (length a) (length d) (length o) ≡ given tt =
      simp (
        le-ltb (length a) (l_in st * l_in st) h.room.rows,
        le-ltb (length d) (l_in st * t_in st) h.room.symbols,
        le-ltb (length o) (l_in st * t_in st) (omega (arith, h.room.symbols)),
      )
      in
      given-not-refused tt (code_of why) (sym fine ∙ sym (admits u.admitted h.begun))

-- ---- one packet

-- what is taken is its ESI and its symbol
module _ (p : List ℕ) (i : PayloadId) (q : i ≡ id_at p) (st ps a d st₁ ps₁ a₁ d₁ : List ℕ) (x : Result (Unit {0}) Refusal) where
  taken_as : 4 ≤ length p → Takes i.encoding_symbol_id (take (length p - 4) (drop 4 p)) st ps a d st₁ ps₁ a₁ d₁ x
      → Takes (esi_of p) (symbol_of p) st ps a d st₁ ps₁ a₁ d₁ x
  taken_as m u =
      let e = take_all (length p - 4) (drop 4 p) (omega (arith, length-drop 4 p)) in
      let w = subst (λ (s : List ℕ). Takes i.encoding_symbol_id s st ps a d st₁ ps₁ a₁ d₁ x) e u in
      subst (λ (j : PayloadId). Takes j.encoding_symbol_id (symbol_of p) st ps a d st₁ ps₁ a₁ d₁ x) q w

module _ (p : List ℕ) (m : Memory) (i : PayloadId) (q : i ≡ id_at p) where
  own_is : eqb i.source_block_number 0 ≡ is_own p
  own_is = ap (λ (j : PayloadId). eqb j.source_block_number 0) q

  -- of another block: it is passed over
  pub other-heard : (i.source_block_number ≡ 0 → ⊥) → (false ≡ is_own p) × HearsMore p m m
  other-heard n =
      let e : false ≡ is_own p = sym (ne_eqb i.source_block_number 0 n) ∙ own_is in
      (e, λ z l h. subst (λ (b : Bool). Held (pick b (arrived z (esi_of p) (symbol_of p)) z) m) e h)

  -- of the block: it is taken
  module _ {st₁ ps₁ a₁ d₁ : List ℕ} {x : Result (Unit {0}) Refusal} where
    pub own-heard : i.source_block_number ≡ 0 → Bytes p → 4 ≤ length p
        → Takes i.encoding_symbol_id (take (length p - 4) (drop 4 p)) m.state.now m.pivots.now m.rows.now m.values.now st₁ ps₁ a₁ d₁ x
        → (true ≡ is_own p) × ((z : Stretch) → length p ≡ z.t + 4 → Held z m → Holding (hearing z p) st₁ ps₁ a₁ d₁)
    own-heard n b l u =
        let e : true ≡ is_own p = sym (eq-eqb i.source_block_number 0 n) ∙ own_is in
        let v = taken_as p i q m.state.now m.pivots.now m.rows.now m.values.now st₁ ps₁ a₁ d₁ x l u in (
          e,
          λ z y h. subst (λ (c : Bool). Holding (pick c (arrived z (esi_of p) (symbol_of p)) z) st₁ ps₁ a₁ d₁) e
              (packet-held z m.state.now m.pivots.now m.rows.now m.values.now h (esi_of p) (symbol_of p) st₁ ps₁ a₁ d₁ x
              (number_lt p 1 3 b) (omega (arith, length-drop 4 p)) v),
        )

-- ---- one packet more of a delivery

pub stretch-more : (d : List ℕ) (n : ℕ) → hearing (stretch_at d n) (packet_of d (t_of d) n) ≡ stretch_at d (n + 1)
unfolding esis_in symbols_in
stretch-more d n = rw (add-one n) (go (packet_of d (t_of d) n) (is_own (packet_of d (t_of d) n)))
  where
    go : (p : List ℕ) (b : Bool) → pick b (arrived (stretch_at d n) (esi_of p) (symbol_of p)) (stretch_at d n) ≡ record {
      row = row_in d;
      tables = tables_of d;
      k = k_of d;
      t = t_of d;
      esis = pick b (esis_in d (t_of d) n ++ (esi_of p ∷ [])) (esis_in d (t_of d) n);
      symbols = pick b (symbols_in d (t_of d) n ++ symbol_of p) (symbols_in d (t_of d) n);
    }
    go p true = refl
    go p false = refl

pub heard-one : (d : List ℕ) (i : ℕ) (m m₁ : Memory) {t : ℕ} {p : List ℕ} → t ≡ t_of d → p ≡ packet_of d t i → length p ≡ t + 4 → HearsMore p m m₁
    → Held (stretch_at d i) m
    → Held (stretch_at d (i + 1)) m₁
heard-one d i m m₁ {t} {p} et ep l u h =
    let q : p ≡ packet_of d (t_of d) i = ep ∙ ap (λ (x : ℕ). packet_of d x i) et in
    let v = subst (λ (x : List ℕ). Held (hearing (stretch_at d i) x) m₁) q (u (stretch_at d i) (l ∙ ap (λ (x : ℕ). x + 4) et) h) in
    subst (λ (z : Stretch). Held z m₁) (stretch-more d i) v

pub tallied : (d : List ℕ) (t i : ℕ) {o n : ℕ} {own : Bool} {p : List ℕ} → p ≡ packet_of d t i → own ≡ is_own p → o ≡ others_in d t i → n ≡ pick own o (o + 1)
    → n ≡ others_in d t (i + 1)
tallied d t i {o} {n} ep eb eo en =
    en ∙ ap₂ (λ (b : Bool) (x : ℕ). pick b x (x + 1)) (eb ∙ ap is_own ep) eo ∙ sym (others-more d t i)

-- all whole packets were heard
pub heard_all : (d : List ℕ) {t n i : ℕ} (m : Memory) → t ≡ t_of d → n ≡ count_of (length d) t → i ≡ n → Held (stretch_at d i) m → Held (stretch_of d) m
heard_all d m et en ei h = subst (λ (x : ℕ). Held (stretch_at d x) m) (ei ∙ en ∙ ap (count_of (length d)) et) h

pub passed_is : (d : List ℕ) {t n i o : ℕ} → t ≡ t_of d → n ≡ count_of (length d) t → i ≡ n → o ≡ others_in d t i
    → ◌≡◌ {A = Passed} (record { others = o; cut = not (eqb (left_of (length d) t) 0) }) (passed_of d)
passed_is d {t} {n} {i} {o} et en ei eo =
    let e : o ≡ others_in d (t_of d) (n_of d) = eo ∙ ap₂ (others_in d) et (ei ∙ en ∙ ap (count_of (length d)) et) in
    ap₂ {C = Passed} (λ (x y : ℕ). record { others = x; cut = not (eqb (left_of (length d) y) 0) }) e et

-- ---- the end

-- a question leaves the row, K and T in the state as they were
module _ {f : ℕ → ℕ} (st st₁ : List ℕ) (w : Written f st st₁ 11 2) where
  row_stays : State·row_in st₁ ≡ State·row_in st
  row_stays = rw (
    w.low 0 (omega arith),
    w.low 1 (omega arith),
    w.low 2 (omega arith),
    w.low 3 (omega arith),
    w.low 4 (omega arith),
    w.low 5 (omega arith),
    w.low 6 (omega arith),
    w.low 7 (omega arith),
    w.low 8 (omega arith),
  ) refl

-- where it was answered the block can be rebuilt
ready : (b : Bool) {P : Type 0} {o : Outcome (Unit {0})} → Told b P → given tt ≡ unless (not b) 14 o → P × (o ≡ given tt)
ready true t e = (t, sym e)
ready false t e = absurd (given-not-refused tt 14 e)

module _ {st ps a d o st₁ ps₁ a₁ d₁ o₁ : List ℕ} (m : ℕ) where
  pub answered-restorable : (v : Verdict) → Asks st ps a d o st₁ ps₁ a₁ d₁ o₁ (Ok v) → length o₁ ≡ length o → length o ≤ m → Restorable st₁ (length o₁) m
  answered-restorable v w lo lm =
      let r = ready w.admitted.since w.admitted.told w.admitted.answer in
      let s = w.memory.0.state in
      let n = r.0.numbers in
      let q = row_stays st st₁ s in
      let lt : l_in st₁ * t_in st₁ ≡ l_in st * t_in st = ap₂ ◌*◌ (ap l_of q) (s.low 10 (omega arith)) in
      record {
        size = omega (arith, s.size, n.size);
        rules = subst Obeys (sym q) n.rules;
        k-high = omega (arith, s.low 9 (omega arith), s.low 0 (omega arith), n.counts.k-high);
        t-low = omega (arith, s.low 10 (omega arith), n.counts.t-low);
        t-high = omega (arith, s.low 10 (omega arith), n.counts.t-high);
        symbols = omega (arith, (question-passed st a d o r.1).1);
        room = omega arith;
      }

pub rebuildable : (st C xs : List ℕ) {r : Row} {l : ℕ} → r ≡ State·row_in st → l ≡ l_in st * t_in st → Restorable st (length C) (length xs)
    → Rebuildable r (tables_in st) (k_in st) (t_in st) (take l C) xs
rebuildable st C xs {r} {l} er el m =
    let block : k_in st * t_in st ≤ l_in st * t_in st = mul-le-mul_right (t_in st) (omega (arith, m.k-high)) in
    let long : length (take l C) ≡ l = length-take-le l C (omega (arith, m.symbols)) in
    subst (λ (q : Row). Rebuildable q (tables_in st) (k_in st) (t_in st) (take l C) xs) (sym er)
    (record {
      rules = m.rules;
      tables = part_length st 13 1024 (omega (arith, m.size));
      k-high = m.k-high;
      t-low = m.t-low;
      symbols = omega arith;
      room = omega (arith, m.symbols, m.room);
    })

-- what was rebuilt by the numbers that were read from the state
pub restored : (st : List ℕ) {r : Row} {l : ℕ} (C xs ys : List ℕ) (v : Verdict) → r ≡ State·row_in st → l ≡ l_in st * t_in st
    → Leaves (tables_in st) r (k_in st) (t_in st) (take l C) xs ys v
    → Leaves (tables_in st) (State·row_in st) (k_in st) (t_in st) (take (l_in st * t_in st) C) xs ys v
restored st {r} {l} C xs ys v er el u =
    subst (λ (m : ℕ). Leaves (tables_in st) (State·row_in st) (k_in st) (t_in st) (take m C) xs ys v) el
    (subst (λ (q : Row). Leaves (tables_in st) q (k_in st) (t_in st) (take l C) xs ys v) er u)

-- what the state names is what is held
leaves-named : (z : Stretch) (st C xs ys : List ℕ) (v : Verdict) → Named z st
    → Leaves (tables_in st) (State·row_in st) (k_in st) (t_in st) (take (l_in st * t_in st) C) xs ys v
    → Leaves z.tables z.row z.k z.t (take (l_of z.row * z.t) C) xs ys v
leaves-named z st C xs ys v n l =
    let l1 = subst (λ (q : Row). Leaves (tables_in st) q (k_in st) (t_in st) (take (l_of q * t_in st) C) xs ys v) n.row l in
    let l2 = subst (λ (q : List ℕ). Leaves q z.row (k_in st) (t_in st) (take (l_of z.row * t_in st) C) xs ys v) n.tables l1 in
    let l3 = subst (λ (q : ℕ). Leaves z.tables z.row q (t_in st) (take (l_of z.row * t_in st) C) xs ys v) n.k l2 in
    subst (λ (q : ℕ). Leaves z.tables z.row z.k q (take (l_of z.row * q) C) xs ys v) n.t l3

pub concluded : (m : Memory) {o st₁ ps₁ a₁ d₁ o₁ : List ℕ} (f : ℕ) (p : Passed) (xs ys : List ℕ) (v : Verdict)
    → Asks m.state.now m.pivots.now m.rows.now m.values.now o st₁ ps₁ a₁ d₁ o₁ (Ok v)
    → Leaves (tables_in st₁) (State·row_in st₁) (k_in st₁) (t_in st₁) (take (l_in st₁ * t_in st₁) o₁) xs ys v
    → ConcludesHeld m f p xs ys (taken v f p)
concluded m {o} {st₁} {ps₁} {a₁} {d₁} {o₁} f p xs ys v u l z h =
    let r = u.memory.2 z h in
    (refl, refl, record { was = o; set = o₁; means = r.1; leaves = leaves-named z st₁ o₁ xs ys v r.0.named l })

-- of a delivery, all of which was heard
pub came : (d xs ys : List ℕ) (o : Received) {f : ℕ} {p : Passed} (m : Memory) → screen d ≡ given tt → f ≡ f_of d → p ≡ passed_of d
    → Held (stretch_of d) m
    → ConcludesHeld m f p xs ys o
    → Comes d xs ys o
came d xs ys (Ok r) m e ef ep h u = let c = u (stretch_of d) h in (e, (c.0 ∙ ef, c.1 ∙ ep, c.2))
came d xs ys (Err why) m e ef ep h u = absurd (u (stretch_of d) h)
