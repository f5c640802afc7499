-- The packets of a delivery one after the other, and the source symbols one after the other.
-- Assumes nothing.
use mathlib.Core.Path.{◌≡◌, refl, sym, ap, ap₂, ◌∙◌, subst}
use mathlib.Core.Bool.{Bool, true, false}
use mathlib.Core.List.{List, [], ◌∷◌, ◌++◌}
use Rattle.std.specs.Prelude.{Result}
use Prim.Native.Nat.{ℕ, zero, suc, ◌+◌, ◌-◌, ◌*◌, ◌/◌, ◌%◌, ◌≤◌, ◌<◌}
use native.Mathlib.Nat.{add-sub_cancel_left, add-mul, add-zero, one-mul, div-add-mod'}
use native.Mathlib.Numerals.{add-one}
use native.Mathlib.Decide.{dec_lt}
use native.Mathlib.Omega.{arith}
use lib.Arith.{digits_div, digits_mod}
use lib.ListN.{length, get_or, take, drop, length-append, length-drop, get_or-append}
use lib.Seq.{get_or-append-add}
use Rattle.field.specs.Choice.{pick}
use Rattle.field.specs.Answer.{Outcome, Left}
use Rattle.field.specs.Runs.{Written}
use Rattle.field.proofs.Writing.{written_is, written_from}
use Rattle.field.proofs.Parts.{splice, part-is, part_length, written-part, written_then, block-ends}
use Rattle.field.specs.declared.refusal.Refusal.{Refusal}
use Rattle.headers.specs.Row.{Obeys, l_of}
use Rattle.headers.specs.Shift.{shifted}
use Rattle.headers.specs.declared.row.Row.{Row}
use Rattle.headers.proofs.Shifts.{shifted-below}
use Rattle.encoding.specs.Encoded.{Encodes, encoded}
use Rattle.encoding.proofs.Allowed.{Allowed, encodes-done}
use Rattle.delivery.specs.Layout.{count_of, esi_of, esis_in, is_own, others_in, packet_at, packet_of, symbol_of, symbols_in}
use Rattle.delivery.specs.Received.{source_octet}

-- packet i ends before the n-th begins
pub packet-ends : (t i n : ℕ) → i < n → packet_at t i + (t + 4) ≤ packet_at t n
packet-ends t i n h = omega (arith, block-ends (t + 4) h)

next : (i t : ℕ) → i * t + t ≡ (i + 1) * t
next i t = omega (arith, add-mul i 1 t, one-mul t)

-- the whole packets end inside
pub packets-in : (len t : ℕ) → 4128 ≤ len → packet_at t (count_of len t) ≤ len
packets-in len t h =
    let q : (len - 4128) / (t + 4) * (t + 4) + (len - 4128) % (t + 4) ≡ len - 4128 = div-add-mod' (len - 4128) (t + 4) in
    omega arith

-- the part that is packet i
pub part-packet : (d : List ℕ) (t i n : ℕ) → i < n → packet_at t n ≤ length d
    → (take (packet_at t i + (t + 4) - packet_at t i) (drop (packet_at t i) d) ≡ packet_of d t i)
    × (length (take (packet_at t i + (t + 4) - packet_at t i) (drop (packet_at t i) d)) ≡ t + 4)
part-packet d t i n h b =
    let e = part-is d (packet_at t i) (t + 4) in
    (e, ap length e ∙ part_length d (packet_at t i) (t + 4) (omega (arith, packet-ends t i n h)))

pub others-none : (d : List ℕ) (t : ℕ) → 0 ≡ others_in d t 0
unfolding others_in
others-none d t = refl

-- ---- the packets of the block, one after the other

module _ (d : List ℕ) (t : ℕ) where
  -- a packet that is there has all its bytes
  pub packet-whole : (i : ℕ) → packet_at t i + (t + 4) ≤ length d → length (packet_of d t i) ≡ t + 4
  packet-whole i h = part_length d (packet_at t i) (t + 4) h

  pub others-more : (n : ℕ) → others_in d t (n + 1) ≡ pick (is_own (packet_of d t n)) (others_in d t n) (others_in d t n + 1)
  unfolding others_in
  others-more n = rw add-one refl

  -- there are no more than there are packets
  pub others-most : (n : ℕ) → others_in d t n ≤ n
  unfolding others_in
  others-most zero = omega arith
  others-most (suc n) = go (is_own (packet_of d t n)) (others-most n)
    where
      go : (b : Bool) → others_in d t n ≤ n → pick b (others_in d t n) (others_in d t n + 1) ≤ suc n
      go true h = omega arith
      go false h = omega arith

  -- as many symbols as ESIs
  pub symbols-long : (n : ℕ) → packet_at t n ≤ length d → length (symbols_in d t n) ≡ length (esis_in d t n) * t
  unfolding symbols_in esis_in
  symbols-long zero h = omega arith
  symbols-long (suc n) h =
      let q = packet-ends t n (suc n) (omega arith) in
      go (packet_of d t n) (is_own (packet_of d t n)) (symbols-long n (omega arith)) (packet-whole n (omega arith))
    where
      go : (p : List ℕ) (b : Bool) → length (symbols_in d t n) ≡ length (esis_in d t n) * t → length p ≡ t + 4
          → length (pick b (symbols_in d t n ++ symbol_of p) (symbols_in d t n)) ≡ length (pick b (esis_in d t n ++ (esi_of p ∷ [])) (esis_in d t n)) * t
      go p true e l =
          let m : length (symbols_in d t n) + length (drop 4 p) ≡ length (esis_in d t n) * t + t = omega (arith, length-drop 4 p) in
          length-append (symbols_in d t n) (symbol_of p) ∙ m ∙ next (length (esis_in d t n)) t
          ∙ ap (λ (x : ℕ). x * t) (sym (length-append (esis_in d t n) (esi_of p ∷ [])))
      go p false e l = e

-- a list that may have got an end: what stood in it stands there
grown : (b : Bool) (xs ys : List ℕ) (i : ℕ) → i < length xs → (get_or (pick b (xs ++ ys) xs) i 0 ≡ get_or xs i 0) × (i < length (pick b (xs ++ ys) xs))
grown true xs ys i h = (get_or-append xs ys 0 i h, omega (arith, length-append xs ys))
grown false xs ys i h = (refl, h)

-- Packet i, of the block, has its place in both lists: behind those before it.
module _ (d : List ℕ) (t i : ℕ) (own : is_own (packet_of d t i) ≡ true) where
  last : (get_or (esis_in d t (suc i)) (length (esis_in d t i)) 0 ≡ esi_of (packet_of d t i)) × (length (esis_in d t i) < length (esis_in d t (suc i)))
  unfolding esis_in
  last = rw own (
    ap (λ (x : ℕ). get_or (esis_in d t i ++ (esi_of (packet_of d t i) ∷ [])) x 0) (sym (add-zero (length (esis_in d t i))))
        ∙ get_or-append-add (esis_in d t i) (esi_of (packet_of d t i) ∷ []) 0 0,
    omega (arith, length-append (esis_in d t i) (esi_of (packet_of d t i) ∷ [])),
  )

  pub esi-there : (n : ℕ) → i < n
      → (get_or (esis_in d t n) (length (esis_in d t i)) 0 ≡ esi_of (packet_of d t i)) × (length (esis_in d t i) < length (esis_in d t n))
  unfolding esis_in
  esi-there zero h = absurd (omega arith)
  esi-there (suc n) h = go (dec_lt i n) (esi-there n)
    where
      go : Dec (i < n) → (i < n → (get_or (esis_in d t n) (length (esis_in d t i)) 0 ≡ esi_of (packet_of d t i)) × (length (esis_in d t i) < length (esis_in d t n)))
          → (get_or (esis_in d t (suc n)) (length (esis_in d t i)) 0 ≡ esi_of (packet_of d t i)) × (length (esis_in d t i) < length (esis_in d t (suc n)))
      go (yes l) f =
          let g = grown (is_own (packet_of d t n)) (esis_in d t n) (esi_of (packet_of d t n) ∷ []) (length (esis_in d t i)) (f l).1 in
          (g.0 ∙ (f l).0, g.1)
      go (no l) f =
          let e : i ≡ n = omega arith in
          subst (λ (m : ℕ). (get_or (esis_in d t (suc m)) (length (esis_in d t i)) 0 ≡ esi_of (packet_of d t i)) ×
          (length (esis_in d t i) < length (esis_in d t (suc m)))) e
          last

  -- and its symbol, byte b of it, at T times that place
  module _ (b : ℕ) (s : b < t) where
    symbol-last : packet_at t (suc i) ≤ length d
        → (get_or (symbols_in d t (suc i)) (length (symbols_in d t i) + b) 0 ≡ get_or (symbol_of (packet_of d t i)) b 0)
        × (length (symbols_in d t i) + b < length (symbols_in d t (suc i)))
    unfolding symbols_in
    symbol-last h =
        let l = packet-whole d t i (omega (arith, packet-ends t i (suc i) (omega arith))) in
        rw own (
          get_or-append-add (symbols_in d t i) (symbol_of (packet_of d t i)) b 0,
          omega (arith, length-append (symbols_in d t i) (symbol_of (packet_of d t i)), length-drop 4 (packet_of d t i)),
        )

    pub symbol-there : (n : ℕ) → i < n → packet_at t n ≤ length d
        → (get_or (symbols_in d t n) (length (symbols_in d t i) + b) 0 ≡ get_or (symbol_of (packet_of d t i)) b 0)
        × (length (symbols_in d t i) + b < length (symbols_in d t n))
    unfolding symbols_in
    symbol-there zero h u = absurd (omega arith)
    symbol-there (suc n) h u = go (dec_lt i n) (λ l. symbol-there n l (omega (arith, packet-ends t n (suc n) (omega arith))))
      where
        go : Dec (i < n)
            → (i < n → (get_or (symbols_in d t n) (length (symbols_in d t i) + b) 0 ≡ get_or (symbol_of (packet_of d t i)) b 0)
            × (length (symbols_in d t i) + b < length (symbols_in d t n)))
            → (get_or (symbols_in d t (suc n)) (length (symbols_in d t i) + b) 0 ≡ get_or (symbol_of (packet_of d t i)) b 0)
            × (length (symbols_in d t i) + b < length (symbols_in d t (suc n)))
        go (yes l) f =
            let g = grown (is_own (packet_of d t n)) (symbols_in d t n) (symbol_of (packet_of d t n)) (length (symbols_in d t i) + b) (f l).1 in
            (g.0 ∙ (f l).0, g.1)
        go (no l) f =
            let e : i ≡ n = omega arith in
            subst (λ (m : ℕ). (get_or (symbols_in d t (suc m)) (length (symbols_in d t i) + b) 0 ≡ get_or (symbol_of (packet_of d t i)) b 0)
            × (length (symbols_in d t i) + b < length (symbols_in d t (suc m)))) e
            (symbol-last (subst (λ (m : ℕ). packet_at t (suc m) ≤ length d) (sym e) u))

-- the source symbol of one ESI more
module _ (v : List ℕ) (r : Row) (k t i from : ℕ) (C ys : List ℕ) (o : Obeys r) (all : length v ≡ 1024) (h : k ≤ r.kp)
    (below : i < k) (some : 0 < t) (have : l_of r * t ≤ length C) (e : from ≡ i * t) (inside : from + t ≤ length ys) where
  long : length (take t (drop from ys)) ≡ t
  long = part_length ys from t inside

  may : Allowed r (length v) k t i (length C) (length (take t (drop from ys)))
  may = record {
    rules = o;
    all = all;
    k-low = omega arith;
    k-high = h;
    esi-24 = omega (arith, o.ranges.kp-16);
    some = λ q. absurd (omega arith);
    enough = have;
    fits = omega (arith, long);
  }

  encodes-it : {zs : List ℕ} {a : Result (Unit {0}) Refusal} → Encodes v r k t i C (take t (drop from ys)) zs a → Written (encoded v r (shifted i k r.kp) t C)
      (take t (drop from ys)) zs 0 t
  encodes-it {zs} u =
      subst (λ (p : Outcome (Unit {0})). Left p (take t (drop from ys)) zs (Written (encoded v r (shifted i k r.kp) t C) (take t (drop from ys)) zs 0 t))
      (encodes-done may u) u.memory

  octet-is : (x : ℕ) → x < t → encoded v r (shifted i k r.kp) t C x ≡ source_octet v r t C (i * t + x)
  octet-is x l =
      ap (λ (n : ℕ). encoded v r n t C x) (shifted-below k r.kp i below)
      ∙ ap₂ (λ (n y : ℕ). encoded v r n t C y) (sym (digits_div i l)) (sym (digits_mod i l))

  pub block_more : {xs zs : List ℕ} {a : Result (Unit {0}) Refusal} → Written (source_octet v r t C) xs ys 0 (i * t) → Encodes v r k t i C
      (take (from + t - from) (drop from ys)) zs a
      → Written (source_octet v r t C) xs (splice ys from (from + t - from) zs) 0 ((i + 1) * t)
  block_more w u =
      let m = written-part ys from t (encodes-it (rw (add-sub_cancel_left from t) at u)) inside (omega arith) in
      rw (add-sub_cancel_left from t) (written_is (written_then w (written_from m (omega arith)) octet-is) (next i t))
