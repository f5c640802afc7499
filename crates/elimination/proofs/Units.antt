-- Held rows, as many as there are columns, become unit rows from the last one back: each is one when its turn comes, and goes off those before it.
-- Assumes nothing.
use mathlib.Core.Path.{◌≡◌, refl, sym, ap, ap₂, ◌∙◌}
use mathlib.Core.Logic.{◌≢◌, ◌⊎◌, inl, inr}
use mathlib.Core.List.{List}
use Prim.Native.Nat.{ℕ, ◌+◌, ◌*◌, ◌≤◌, ◌<◌}
use native.Mathlib.Nat.{add-zero, mul-le-mul_right}
use native.Mathlib.Omega.{arith}
use native.Mathlib.Decide.{ℕ_discrete, dec_lt}
use lib.Bits.{xor_lt, xor_self, xor_zero_r}
use lib.Arith.{digits_lt}
use lib.ListN.{length, get_or}
use Rattle.field.specs.Octet.{plus, times}
use Rattle.field.specs.Runs.{Written}
use Rattle.field.specs.Sum.{unit}
use Rattle.field.proofs.Laws.{times-lt, times_zero, times-one, zero-times}
use Rattle.field.proofs.Parts.{block-ends}
use Rattle.field.proofs.Sums.{unit-same, unit-other}
use Rattle.linear.specs.Octets.{octets}
use Rattle.linear.specs.Bytes.{Bytes, cell}
use Rattle.linear.specs.Rows.{RowAdded, OnlyBelow}
use Rattle.linear.specs.Elimination.{Keeps, Stepped}
use Rattle.linear.proofs.Index.{find}
use Rattle.linear.proofs.Kernel.{pigeon-more}
use Rattle.linear.proofs.Rows.{bytes-written, only-past, only-refl, only-trans, only-more, only_row, only-written}
use Rattle.linear.proofs.Elimination.{stepped-columns}
use Rattle.linear.proofs.Keeping.{keeps-refl, keeps-trans, keeps-added, holds_kept}
use Rattle.elimination.specs.Steps.{StoresRoom, column}
use Rattle.elimination.specs.Reducing.{UnitRow, ColumnCleared, Reduces}

-- ---- one octet

pub entry_in : {L T q c j : ℕ} {a d : List ℕ} → StoresRoom (q + 1) L T a d → c < L → j < q → j * L + c < length a
entry_in {L} {q = q} {j = j} s hc hj = omega (arith, s.rows, digits_lt {q = j} {m = q + 1} {r = _} (omega arith) hc)

-- it is 0 already: nothing is to be done
pub zero-there : (xs : List ℕ) (x : ℕ) → get_or xs x 0 ≡ 0 → Written (λ _. 0) xs xs x 1
zero-there xs x e = record {
  size = refl;
  part = λ k h. (let i : x + k ≡ x = omega arith in ap (λ (j : ℕ). get_or xs j 0) i ∙ e);
  low = λ k h. refl;
  high = λ k h. refl;
}

-- 0 times a row is nothing
pub added_none : (w i k f : ℕ) (xs : List ℕ) → f ≡ 0 → RowAdded w i k f xs xs
added_none w i k f xs e = record {
  size = refl;
  part = λ c h.
      sym (ap (λ (z : ℕ). plus (cell w xs i c) (times z (cell w xs k c))) e ∙ ap (plus (cell w xs i c)) (zero-times (cell w xs k c))
      ∙ xor_zero_r (cell w xs i c));
  low = λ k h. refl;
  high = λ k h. refl;
}

module _ {L c : ℕ} (n : ℕ) {a a₁ : List ℕ} (hc : c < L) (w : Written (λ _. 0) a a₁ (n * L + c) 1) where
  own : cell L a₁ n c ≡ 0
  own = ap (λ (i : ℕ). get_or a₁ i 0) (sym (add-zero (n * L + c))) ∙ w.part 0 (omega arith)

  -- the others are as they were
  other : (k x : ℕ) → x < L → (k ≡ n → x ≢ c) → cell L a₁ k x ≡ cell L a k x
  other k x h ne = go (dec_lt k n) (dec_lt n k) (dec_lt x c)
    where
      go : Dec (k < n) → Dec (n < k) → Dec (x < c) → cell L a₁ k x ≡ cell L a k x
      go (yes l) e f = w.low (k * L + x) (omega (arith, block-ends L l))
      go (no l) (yes m) f = w.high (k * L + x) (omega (arith, block-ends L m))
      go (no l) (no m) (yes f) = let e : k ≡ n = omega arith in w.low (k * L + x) (omega (arith, ap (λ (z : ℕ). z * L) e))
      go (no l) (no m) (no f) =
          let e : k ≡ n = omega arith in
          let b : x ≢ c = ne e in
          w.high (k * L + x) (omega (arith, b, ap (λ (z : ℕ). z * L) e))

  -- where row q is the unit row of that column, it went off row n
  entry-added : (q : ℕ) → UnitRow L q c a → Bytes a → RowAdded L n q (cell L a n c) a a₁
  entry-added q u b = record {
    size = w.size;
    part = λ x h. go x h (ℕ_discrete x c);
    low = λ k h. w.low k (omega arith);
    high = λ k h. w.high k (omega arith);
  }
    where
      f : ℕ
      f = cell L a n c

      go : (x : ℕ) → x < L → Dec (x ≡ c) → cell L a₁ n x ≡ plus (cell L a n x) (times f (cell L a q x))
      go x h (yes e) =
          ap (cell L a₁ n) e ∙ own
          ∙ sym (ap₂ (λ (y z : ℕ). plus (cell L a n y) (times f z)) e (u x h ∙ unit-same x c e) ∙ ap (plus f) (times-one f (b (n * L + c))) ∙ xor_self f)
      go x h (no m) =
          other n x h (λ _. m)
          ∙ sym (ap (λ (z : ℕ). plus (cell L a n x) (times f z)) (u x h ∙ unit-other x c m) ∙ ap (plus (cell L a n x)) (times_zero f)
          ∙ xor_zero_r (cell L a n x))

-- ---- a column

pub cleared-none : {L T q c : ℕ} (a d : List ℕ) → ColumnCleared L T 0 q c a d a d
cleared-none a d = record {
  rows = only-refl;
  symbols = only-refl;
  gone = λ j h. absurd (omega arith);
  others = λ k x h n. refl;
  keeps = λ u b m h. keeps-refl;
  row-bytes = λ b. b;
  symbol-bytes = λ b. b;
}

pub cleared_more : {L T n q c : ℕ} {a d a₁ d₁ a₂ d₂ : List ℕ} → n < q → c < L → ColumnCleared L T n q c a d a₁ d₁
    → Written (λ _. 0) a₁ a₂ (n * L + c) 1 → RowAdded T n q (cell L a₁ n c) d₁ d₂ → ColumnCleared L T (n + 1) q c a d a₂ d₂
cleared_more {L} {T} {n} {q} {c} {a} {d} {a₁} {d₁} {a₂} {d₂} hn hc u wa wd = record {
  rows = only-trans (only-more (mul-le-mul_right {m = n} {n = n + 1} L (omega arith)) u.rows) (only-written (omega (arith, block-ends L up)) wa);
  symbols = only-trans (only-more (mul-le-mul_right {m = n} {n = n + 1} T (omega arith)) u.symbols) (only_row n (n + 1) up wd);
  gone = λ j h. gone' j h (ℕ_discrete j n);
  others = λ k x h m. other n hc wa k x h (λ _. m) ∙ u.others k x h m;
  keeps = λ r b m h. keeps-trans (u.keeps r b m h)
      (keeps-added n q (cell L a₁ n c) h (λ e. omega arith) (entry-added n hc wa q (λ x l. row-still x ∙ r x l) (u.row-bytes b)) wd);
  row-bytes = λ b. bytes-written (u.row-bytes b) (λ k h. omega arith) wa;
  symbol-bytes = λ b. bytes-written (u.symbol-bytes b)
      (λ x h. xor_lt 8 (cell T d₁ n x) (times (cell L a₁ n c) (cell T d₁ q x)) (u.symbol-bytes b _) (times-lt (cell L a₁ n c) (cell T d₁ q x))) wd;
}
  where
    up : n < n + 1
    up = omega arith

    row-still : (x : ℕ) → cell L a₁ q x ≡ cell L a q x
    row-still x = only-past u.rows (q * L + x) (omega (arith, block-ends L hn))

    gone' : (j : ℕ) → j < n + 1 → Dec (j ≡ n) → cell L a₂ j c ≡ 0
    gone' j h (yes e) = ap (λ (z : ℕ). cell L a₂ z c) e ∙ own n hc wa
    gone' j h (no m) = other n hc wa j c hc (λ e. absurd (m e)) ∙ u.gone j (omega arith)

pub cleared-is : {L T n q c : ℕ} {a d a₁ d₁ : List ℕ} → n ≡ q → ColumnCleared L T n q c a d a₁ d₁ → ColumnCleared L T q q c a d a₁ d₁
cleared-is e u = rw e at u

-- ---- when its turn comes a row is a unit row

-- with as many pivots as columns every column is one
pivot-of : {L : ℕ} {pivot : ℕ → ℕ} {a d : List ℕ} → Stepped L L pivot a d → (c : ℕ) → c < L → (k : ℕ) × (k < L) × (pivot k ≡ c)
pivot-of {L} {pivot} s c h = go (find (λ k. pivot k ≡ c) (λ k. ℕ_discrete (pivot k) c) L)
  where
    go : ((k : ℕ) × (k < L) × (pivot k ≡ c)) ⊎ ((k : ℕ) → k < L → ¬ (pivot k ≡ c)) → (k : ℕ) × (k < L) × (pivot k ≡ c)
    go (inl t) = t
    go (inr n) = absurd (let p = stepped-columns s in let b : L < L = pigeon-more octets L L c pivot p.below p.once h n in omega arith)

-- a row that is 0 at the later pivots too
unit_row : {L q : ℕ} {pivot : ℕ → ℕ} {a d : List ℕ} → Stepped L L pivot a d → q < L → ((j : ℕ) → q < j → j < L → cell L a q (pivot j) ≡ 0)
    → UnitRow L q (pivot q) a
unit_row {L} {q} {pivot} {a} s h z x l = go (pivot-of s x l)
  where
    at : (k : ℕ) → k < L → Dec (k < q) → Dec (k ≡ q) → cell L a q (pivot k) ≡ unit (pivot k) (pivot q)
    at k b (yes m) e = s.off q h k m ∙ sym (unit-other (pivot k) (pivot q) (λ g. let i = (stepped-columns s).once k q b h g in omega arith))
    at k b (no m) (yes e) = ap (λ (y : ℕ). cell L a q (pivot y)) e ∙ s.one q h ∙ sym (unit-same (pivot k) (pivot q) (ap pivot e))
    at k b (no m) (no e) = z k (omega (arith, e)) b ∙ sym (unit-other (pivot k) (pivot q) (λ g. e ((stepped-columns s).once k q b h g)))

    go : (k : ℕ) × (k < L) × (pivot k ≡ x) → cell L a q x ≡ unit x (pivot q)
    go t = ap (cell L a q) (sym t.2) ∙ at t.0 t.1 (dec_lt t.0 q) (ℕ_discrete t.0 q) ∙ ap (λ (y : ℕ). unit y (pivot q)) t.2

-- ---- the rows stand as they did

module _ {L T q : ℕ} {pivot : ℕ → ℕ} {a d a₁ d₁ : List ℕ} (s : Stepped L L pivot a d) (hq : q < L) (u : ColumnCleared L T q q (pivot q) a d a₁ d₁) where
  kept : (k x : ℕ) → x < L → (k < q → x ≢ pivot q) → cell L a₁ k x ≡ cell L a k x
  kept k x h n = go (dec_lt k q)
    where
      go : Dec (k < q) → cell L a₁ k x ≡ cell L a k x
      go (yes l) = u.others k x h (n l)
      go (no l) = only-past u.rows (k * L + x) (omega (arith, mul-le-mul_right {m = q} {n = k} L (omega arith)))

  -- what was 0 is 0
  still-zero : (k x : ℕ) → x < L → cell L a k x ≡ 0 → cell L a₁ k x ≡ 0
  still-zero k x h z = go (dec_lt k q) (ℕ_discrete x (pivot q))
    where
      go : Dec (k < q) → Dec (x ≡ pivot q) → cell L a₁ k x ≡ 0
      go (yes l) (yes e) = ap (cell L a₁ k) e ∙ u.gone k l
      go (yes l) (no n) = kept k x h (λ _. n) ∙ z
      go (no l) e = kept k x h (λ b. absurd (l b)) ∙ z

  cleared-stands : Stepped L L pivot a₁ d₁
  cleared-stands = record {
    column = s.column;
    one = λ k h. kept k (pivot k) (s.column k h) (λ l e. let i = (stepped-columns s).once k q h hq e in omega arith) ∙ s.one k h;
    low = λ k h c l. still-zero k c (omega (arith, s.column k h)) (s.low k h c l);
    off = λ i h k l. still-zero i (pivot k) (s.column k (omega arith)) (s.off i h k l);
    row-bytes = u.row-bytes s.row-bytes;
    symbol-bytes = u.symbol-bytes s.symbol-bytes;
  }

-- ---- from the last row back

-- the rows from q on are off those before them
pub record ReducedFrom (L T q : ℕ) (ps a d a₁ d₁ : List ℕ) : Type 0 where
  pub rows : OnlyBelow (L * L) a a₁
  pub symbols : OnlyBelow (L * T) d d₁
  pub stands : Stepped L L (column ps) a d → Stepped L L (column ps) a₁ d₁
  pub clean : Stepped L L (column ps) a d → (j : ℕ) → q ≤ j → j < L → (k : ℕ) → k < j → cell L a₁ k (column ps j) ≡ 0
  pub keeps : Stepped L L (column ps) a d → Keeps L L T a d a₁ d₁

pub reduced-none : {L T : ℕ} (ps a d : List ℕ) → ReducedFrom L T L ps a d a d
reduced-none ps a d = record { rows = only-refl; symbols = only-refl; stands = λ s. s; clean = λ s j h l. absurd (omega arith); keeps = λ s. keeps-refl }

pub reduced-more : {L T q r : ℕ} {ps a d a₁ d₁ a₂ d₂ : List ℕ} → r ≡ q + 1 → q < L → ReducedFrom L T r ps a d a₁ d₁
    → ColumnCleared L T q q (column ps q) a₁ d₁ a₂ d₂ → ReducedFrom L T q ps a d a₂ d₂
reduced-more {L} {T} {q} {r} {ps} {a} {d} {a₁} {d₁} {a₂} e hq v u = record {
  rows = only-trans v.rows (only-more (mul-le-mul_right {m = q} {n = L} L (omega arith)) u.rows);
  symbols = only-trans v.symbols (only-more (mul-le-mul_right {m = q} {n = L} T (omega arith)) u.symbols);
  stands = λ s. cleared-stands (v.stands s) hq u;
  clean = λ s j h l k b. clean' s j h l k b (ℕ_discrete j q);
  keeps = λ s. keeps-trans (v.keeps s) (u.keeps (unit_row (v.stands s) hq (λ j b l. v.clean s j (omega arith) l q b)) (v.stands s).row-bytes L hq);
}
  where
    clean' : Stepped L L (column ps) a d → (j : ℕ) → q ≤ j → j < L → (k : ℕ) → k < j → Dec (j ≡ q) → cell L a₂ k (column ps j) ≡ 0
    clean' s j h l k b (yes i) = ap (λ (z : ℕ). cell L a₂ k (column ps z)) i ∙ u.gone k (omega arith)
    clean' s j h l k b (no n) = still-zero (v.stands s) hq u k (column ps j) ((v.stands s).column j l) (v.clean s j (omega arith) l k b)

pub reduced-all : {L T q : ℕ} {ps a d a₁ d₁ : List ℕ} → q ≡ 0 → ReducedFrom L T q ps a d a₁ d₁ → Reduces L T ps a d a₁ d₁
reduced-all e v = record {
  rows = v.rows;
  symbols = v.symbols;
  units = λ s k h. unit_row (v.stands s) h (λ j b l. v.clean s j (omega arith) l k b);
  stands = v.stands;
  says = λ s S h. holds_kept h (v.keeps s);
}
