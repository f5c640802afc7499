-- The way back: row by row from the last on, the symbol of each pivot is what its row asks, and then the symbols meet all held equations. So held
-- equations can always be met.
-- Assumes nothing.
use mathlib.Core.Path.{◌≡◌, refl, sym, ap, ap₂, ◌∙◌, subst}
use mathlib.Core.Logic.{◌≢◌}
use mathlib.Core.List.{List}
use Prim.Native.Nat.{ℕ, zero, suc, ◌+◌, ◌*◌, ◌≤◌, ◌<◌}
use native.Mathlib.Nat.{zero-add, add-zero}
use native.Mathlib.Numerals.{add-one}
use native.Mathlib.Omega.{arith}
use native.Mathlib.Decide.{ℕ_discrete, dec_lt}
use borrow.Author.Tests.{lt-ltb, le-ltb}
use lib.Bits.{xor_lt, xor_self, xor_zero_r}
use lib.ListN.{length, get_or, take, drop, get_or-eq_default}
use Rattle.field.specs.Octet.{plus, times}
use Rattle.field.specs.Runs.{Written}
use Rattle.field.specs.Sum.{sum}
use Rattle.field.proofs.Laws.{times-lt, zero-times, one-times}
use Rattle.field.proofs.Parts.{part_length, written-part, splice, block-ends}
use Rattle.field.proofs.Sums.{sum_same, sum-zero, sum-only, sum-last, sum-plus, sum_lt}
use Rattle.field.proofs.Xor.{assoc}
use Rattle.linear.specs.Bytes.{Bytes, Block, cell, stored_system, tabulate, FitsBytes}
use Rattle.linear.specs.Rows.{RowAdded, RowCopied}
use Rattle.linear.specs.Elimination.{Stepped}
use Rattle.linear.specs.Back.{past, asked, Brought, MetFrom}
use Rattle.linear.proofs.Bytes.{length-tabulate, get_d_tabulate}
use Rattle.linear.proofs.Rows.{row_other, bytes-written}

-- ---- what is past a column

past-yes : (p c x : ℕ) → p < c → past p c x ≡ x
unfolding past
past-yes p c x h = rw (lt-ltb p c h)

past-not : (p c x : ℕ) → c ≤ p → past p c x ≡ 0
unfolding past
past-not p c x h = rw (le-ltb p c h)

-- two are the same where they are the same past it
past_same : (p c x y : ℕ) → (p < c → x ≡ y) → past p c x ≡ past p c y
past_same p c x y e = go (dec_lt p c)
  where
    go : Dec (p < c) → past p c x ≡ past p c y
    go (yes h) = ap (past p c) (e h)
    go (no h) = past-not p c x (omega arith) ∙ sym (past-not p c y (omega arith))

-- terms that are 0 add nothing
sum-on : (n m : ℕ) (f : ℕ → ℕ) → n ≤ m → ((c : ℕ) → n ≤ c → c < m → f c ≡ 0) → sum m f ≡ sum n f
sum-on n zero f h z = let e : 0 ≡ n = omega arith in ap (λ (x : ℕ). sum x f) e
sum-on n (suc m) f h z = go (ℕ_discrete n (suc m)) (λ b. sum-on n m f b (λ c l i. z c l (omega arith)))
  where
    go : Dec (n ≡ suc m) → (n ≤ m → sum m f ≡ sum n f) → sum (suc m) f ≡ sum n f
    go (yes e) r = ap (λ (x : ℕ). sum x f) (sym e)
    go (no b) r = sum-last m f ∙ ap (plus (sum m f)) (z m (omega arith) (omega arith)) ∙ xor_zero_r (sum m f) ∙ r (omega arith)

-- a sum whose terms before p are 0: the term at p, and those past it
sum-split : (L p : ℕ) (f : ℕ → ℕ) → p < L → ((c : ℕ) → c < p → f c ≡ 0) → sum L f ≡ plus (f p) (sum L (λ c. past p c (f c)))
sum-split L p f hp z =
    sym (assoc (sum L f) (sum L after) (sum L after) ∙ ap (plus (sum L f)) (xor_self (sum L after)) ∙ xor_zero_r (sum L f))
    ∙ ap (λ (x : ℕ). plus x (sum L after)) (sym (sum-plus L f after) ∙ sum-only L (λ c. plus (f c) (after c)) p hp (λ c b n. none c n (dec_lt p c)) ∙ own)
  where
    after : ℕ → ℕ
    after c = past p c (f c)

    own : plus (f p) (after p) ≡ f p
    own = ap (plus (f p)) (past-not p p (f p) (omega arith)) ∙ xor_zero_r (f p)

    none : (c : ℕ) → c ≢ p → Dec (p < c) → plus (f c) (after c) ≡ 0
    none c n (yes l) = ap (plus (f c)) (past-yes p c (f c) l) ∙ xor_self (f c)
    none c n (no l) = ap₂ plus (z c (omega (arith, n))) (past-not p c (f c) (omega arith))

-- ---- one row, column by column

-- its symbol stands at its pivot
pub brought-begin : {L T q p : ℕ} (a d o : List ℕ) → ((t : ℕ) → t < T → cell T o p t ≡ cell T d q t) → Brought L T (p + 1) q p a d o o
brought-begin {L} {T} {q} {p} a d o e = record {
  own = λ t h. e t h ∙ sym (ap (plus (cell T d q t)) (sum-zero (p + 1) (λ c l. past-not p c _ (omega arith))) ∙ xor_zero_r (cell T d q t));
  others = λ c n t h. refl;
}

-- it was copied there: what is asked of the symbols past it is the same before
pub brought-from : {L T n q p : ℕ} (a d o : List ℕ) {o₁ o₂ : List ℕ} → RowCopied T p q d o o₁ → Brought L T n q p a d o₁ o₂ → Brought L T n q p a d o o₂
brought-from {L} {T} {n} {q} {p} a d o s b = record {
  own = λ t h. b.own t h
      ∙ ap (plus (cell T d q t)) (sum_same n (λ c _. past_same p c _ _ (λ l. ap (times (cell L a q c)) (row_other p s c (λ e. omega arith) t h))));
  others = λ c m t h. b.others c m t h ∙ row_other p s c m t h;
}

-- the row is 0 in the next columns
pub brought-past : {L T n m q p : ℕ} (a d o o₁ : List ℕ) → n ≤ m → ((c : ℕ) → n ≤ c → c < m → cell L a q c ≡ 0) → Brought L T n q p a d o o₁
    → Brought L T m q p a d o o₁
brought-past {L} {T} {n} {m} {q} {p} a d o o₁ h z s = record {
  own = λ t l. s.own t l ∙ ap (plus (cell T d q t)) (sym (sum-on n m (asked L T q p t a o) h (λ c b i. zero-term t c (z c b i))));
  others = s.others;
}
  where
    zero-term : (t c : ℕ) → cell L a q c ≡ 0 → asked L T q p t a o c ≡ 0
    zero-term t c e = past_same p c _ 0 (λ _. ap (λ (x : ℕ). times x (cell T o c t)) e ∙ zero-times (cell T o c t)) ∙ past-none (dec_lt p c)
      where
        past-none : Dec (p < c) → past p c 0 ≡ 0
        past-none (yes l) = past-yes p c 0 l
        past-none (no l) = past-not p c 0 (omega arith)

-- symbol n, times what the row has there, went onto it
pub brought-row : {L T n q p f : ℕ} (a d o : List ℕ) {o₁ o₂ : List ℕ} → p < n → f ≡ cell L a q n → RowAdded T p n f o₁ o₂
    → Brought L T n q p a d o o₁ → Brought L T (n + 1) q p a d o o₂
brought-row {L} {T} {n} {q} {p} {f} a d o {o₁} {o₂} h e u s = record {
  own = λ t l. own' t l;
  others = λ c b t l. row_other p u c b t l ∙ s.others c b t l;
}
  where
    term : (t : ℕ) → t < T → times f (cell T o₁ n t) ≡ asked L T q p t a o n
    term t l = ap₂ times e (s.others n (λ z. omega arith) t l) ∙ sym (past-yes p n _ h)

    own' : (t : ℕ) → t < T → cell T o₂ p t ≡ plus (cell T d q t) (sum (n + 1) (asked L T q p t a o))
    own' t l =
        u.part t l ∙ ap₂ plus (s.own t l) (term t l) ∙ assoc (cell T d q t) (sum n (asked L T q p t a o)) (asked L T q p t a o n)
        ∙ ap (plus (cell T d q t)) (sym (ap (λ (x : ℕ). sum x (asked L T q p t a o)) (add-one n) ∙ sum-last n (asked L T q p t a o)))

-- ---- and one row after the other

pub met-none : (L T r : ℕ) (a d o : List ℕ) → MetFrom L T r r a d o
met-none L T r a d o = record { at = λ k h l. absurd (omega arith) }

-- row q is met too, and the later ones are 0 at its pivot
pub met-more : {L T q r : ℕ} {pivot : ℕ → ℕ} {a d : List ℕ} (o o₁ : List ℕ) → Stepped L r pivot a d → q < r → Bytes o₁
    → Brought L T L q (pivot q) a d o o₁ → MetFrom L T (q + 1) r a d o → MetFrom L T q r a d o₁
met-more {L} {T} {q} {r} {pivot} {a} {d} o o₁ s hq small b m = record { at = λ k h l t i. go k h l t i (ℕ_discrete k q) }
  where
    p : ℕ
    p = pivot q

    later : (k t : ℕ) → q < k → k < r → t < T → (c : ℕ) → Dec (c ≡ p) → times (cell L a k c) (cell T o₁ c t) ≡ times (cell L a k c) (cell T o c t)
    later k t h l i c (yes e) =
        let z : cell L a k c ≡ 0 = ap (cell L a k) e ∙ s.off k l q h in
        ap (λ (x : ℕ). times x (cell T o₁ c t)) z ∙ zero-times (cell T o₁ c t) ∙ sym (ap (λ (x : ℕ). times x (cell T o c t)) z ∙ zero-times (cell T o c t))
    later k t h l i c (no n) = ap (times (cell L a k c)) (b.others c n t i)

    own : (t : ℕ) → t < T → sum L (λ c. times (cell L a q c) (cell T o₁ c t)) ≡ cell T d q t
    own t i =
        sum-split L p (λ c. times (cell L a q c) (cell T o₁ c t)) (s.column q hq)
        (λ c l. ap (λ (x : ℕ). times x (cell T o₁ c t)) (s.low q hq c l) ∙ zero-times (cell T o₁ c t))
        ∙ ap₂ plus
        (ap (λ (x : ℕ). times x (cell T o₁ p t)) (s.one q hq) ∙ one-times (cell T o₁ p t) (small (p * T + t)) ∙ b.own t i)
        (sum_same L (λ c _. past_same p c _ _ (λ l. ap (times (cell L a q c)) (b.others c (λ z. omega arith) t i))))
        ∙ assoc (cell T d q t) (sum L (asked L T q p t a o)) (sum L (asked L T q p t a o))
        ∙ ap (plus (cell T d q t)) (xor_self (sum L (asked L T q p t a o))) ∙ xor_zero_r (cell T d q t)

    go : (k : ℕ) → q ≤ k → k < r → (t : ℕ) → t < T → Dec (k ≡ q) → sum L (λ c. times (cell L a k c) (cell T o₁ c t)) ≡ cell T d k t
    go k h l t i (yes e) = ap (λ (z : ℕ). sum L (λ c. times (cell L a z c) (cell T o₁ c t))) e ∙ own t i ∙ ap (λ (z : ℕ). cell T d z t) (sym e)
    go k h l t i (no n) = sum_same L (λ c _. later k t (omega arith) l i c (ℕ_discrete c p)) ∙ m.at k (omega arith) l t i

pub met-fits : {L T r : ℕ} {a d o : List ℕ} → MetFrom L T 0 r a d o → FitsBytes L T (stored_system r L T a d) o
met-fits m = record { meets = λ k h t l. m.at k (omega arith) h t l }

-- ---- such symbols can be written down

filled : (f : ℕ → ℕ) (xs : List ℕ) (n : ℕ) → length xs ≡ n → Written f xs (tabulate n f) 0 n
filled f xs n e = record {
  size = length-tabulate n f ∙ sym e;
  part = λ k h. ap (λ (i : ℕ). get_or (tabulate n f) i 0) (zero-add k) ∙ get_d_tabulate n f k h;
  low = λ k h. absurd (omega arith);
  high = λ k h. get_or-eq_default (tabulate n f) 0 {n = k} (let q = length-tabulate n f in omega arith) ∙ sym (get_or-eq_default xs 0 {n = k} (omega arith));
}

can_write : (f : ℕ → ℕ) (xs : List ℕ) (at n : ℕ) → at + n ≤ length xs → (ys : List ℕ) × Written f xs ys at n
can_write f xs at n fits = (
  splice xs at n (tabulate n f),
  subst (λ (i : ℕ). Written f xs (splice xs at n (tabulate n f)) i n) (add-zero at)
      (written-part xs at n (filled f (take n (drop at xs)) n (part_length xs at n fits)) fits (omega arith)),
)

module _ {L r : ℕ} (T : ℕ) {pivot : ℕ → ℕ} {a d : List ℕ} (s : Stepped L r pivot a d) where
  record Met (q : ℕ) : Type 0 where
    out : List ℕ
    block : Block L T out
    met : MetFrom L T q r a d out

  met-before : (q : ℕ) → q < r → Met (q + 1) → Met q
  met-before q h m = go (can_write f m.out (pivot q * T) T (omega (arith, m.block.size, block-ends T (s.column q h))))
    where
      f : ℕ → ℕ
      f t = plus (cell T d q t) (sum L (asked L T q (pivot q) t a m.out))

      small : (t : ℕ) → t < T → f t < 256
      small t _ = xor_lt 8 (cell T d q t) _ (s.symbol-bytes _) (sum_lt L (λ c _. term t c (dec_lt (pivot q) c)))
        where
          term : (t c : ℕ) → Dec (pivot q < c) → asked L T q (pivot q) t a m.out c < 256
          term t c (yes l) = rw (past-yes (pivot q) c (times (cell L a q c) (cell T m.out c t)) l) (times-lt _ _)
          term t c (no l) = rw (past-not (pivot q) c (times (cell L a q c) (cell T m.out c t)) (omega arith)) (omega arith)

      go : (o : List ℕ) × Written f m.out o (pivot q * T) T → Met q
      go (o, w) =
          let bytes : Bytes o = bytes-written m.block.bytes small w in
          record {
            out = o;
            block = record { size = w.size ∙ m.block.size; bytes = bytes };
            met = met-more m.out o s h bytes (record { own = λ t l. w.part t l; others = λ c n t l. row_other (pivot q) w c n t l }) m.met;
          }

  met-down : (n q : ℕ) → q + n ≡ r → Met q
  met-down zero q e =
      let z : r ≡ q = omega arith in
      subst Met z (record {
        out = tabulate (L * T) (λ _. 0);
        block = record { size = length-tabulate (L * T) (λ _. 0); bytes = λ i. zeros i (dec_lt i (L * T)) };
        met = met-none L T r a d (tabulate (L * T) (λ _. 0));
      })
    where
      zeros : (i : ℕ) → Dec (i < L * T) → get_or (tabulate (L * T) (λ _. 0)) i 0 < 256
      zeros i (yes h) = rw (get_d_tabulate (L * T) (λ _. 0) i h) (omega arith)
      zeros i (no h) = rw (get_or-eq_default (tabulate (L * T) (λ _. 0)) 0 {n = i} (let e = length-tabulate (L * T) (λ _. 0) in omega arith)) (omega arith)
  met-down (suc n) q e = met-before q (omega arith) (met-down n (q + 1) (omega arith))

  -- held equations can be met
  pub held-fit : (o : List ℕ) × Block L T o × FitsBytes L T (stored_system r L T a d) o
  held-fit = let m : Met 0 = met-down r 0 (zero-add r) in (m.out, m.block, met-fits m.met)
