-- The name of the file beside OUT: laid in four parts; there is one; it stands in OUT's folder, and is not OUT.
-- Assumes nothing.
use mathlib.Core.Path.{◌≡◌, sym, ap, ◌∙◌, subst}
use mathlib.Core.Bool.{Bool, true, false, not}
use mathlib.Core.List.{List, [], ◌∷◌, ◌++◌}
use Prim.Native.Nat.{ℕ, zero, suc, ◌+◌, ◌-◌, ◌/◌, ◌%◌, ◌≤◌, ◌<◌}
use native.Mathlib.Decide.{dec_lt}
use native.Mathlib.Omega.{arith}
use lib.Dec.{T, eqb, ltb}
use lib.ListN.{length, get_or, take, drop, length-append, length-drop, get_or-append}
use lib.Seq.{length-take-le, take_all, take-append-le, get_or-take, get_or-drop, get_or-append-add}
use Rattle.field.specs.Choice.{pick}
use Rattle.field.proofs.Computed.{under}
use Rattle.field.proofs.Writing.{written_once}
use Rattle.headers.specs.Bytes.{Laid}
use Rattle.headers.proofs.Bytes.{laid-append}
use Rattle.header_text.specs.Text.{Lined, spelled}
use Rattle.reply.specs.Ascii.{ascii}
use Rattle.reply.specs.Words.{Line}
use Rattle.reply.specs.Names.{Beside, LastPart, beside_of}

-- a path has one last part
pub last-once : {path : List ℕ} {k j : ℕ} → LastPart path k → LastPart path j → k ≡ j
last-once {path} {k} {j} a b = go (dec_lt k j) (dec_lt j k)
  where
    go : Dec (k < j) → Dec (j < k) → k ≡ j
    go (yes l) d = absurd (a.none (j - 1) (omega (arith, b.inside)) (omega arith) (b.slash (omega arith)))
    go (no l) (yes m) = absurd (b.none (k - 1) (omega (arith, a.inside)) (omega arith) (a.slash (omega arith)))
    go (no l) (no m) = omega arith

-- so the name is settled, and every byte of its store
pub beside-once : {path xs ys zs : List ℕ} {i m n : ℕ} → Beside path i xs ys m → Beside path i xs zs n → (m ≡ n) × (ys ≡ zs)
beside-once {path} {xs} {ys} {zs} {i} {m} {n} a b =
    let u = subst (λ (k : ℕ). Line (beside_of path k i) xs zs n) (sym (last-once a.last b.last)) b.line in
    (a.line.count ∙ sym u.count, written_once a.line.laid u.laid)

-- one place more that is no '/', on the way from the end to the front
pub none_before : (path : List ℕ) (k : ℕ) → 0 < k → k ≤ length path → ((i : ℕ) → i < length path → k ≤ i → get_or path i 0 ≡ 47 → ⊥)
    → (get_or path (k - 1) 0 ≡ 47 → ⊥)
    → (k - 1 ≤ length path) × ((i : ℕ) → i < length path → k - 1 ≤ i → get_or path i 0 ≡ 47 → ⊥)
none_before path k some h f g = (omega arith, λ i b l e. go i b l e (dec_lt i k))
  where
    go : (i : ℕ) → i < length path → k - 1 ≤ i → get_or path i 0 ≡ 47 → Dec (i < k) → ⊥
    go i b l e (no m) = f i b (omega arith) e
    go i b l e (yes m) =
        let q : k - 1 ≡ i = omega arith in
        g (ap (λ (x : ℕ). get_or path x 0) q ∙ e)

-- ---- the name, laid in four parts

module _ (path : List ℕ) (k i : ℕ) (h : k ≤ length path) where
  rest : List ℕ
  rest = ascii ".receive-" ++ spelled 20 i

  -- ten bytes more than the path, and the digits
  pub beside-length : length (beside_of path k i) ≡ length path + 10 + length (spelled 20 i)
  unfolding rest
  beside-length =
      let a = length-append (take k path) (ascii "." ++ (drop k path ++ rest)) in
      let b = length-append (drop k path) rest in
      let c = length-append (ascii ".receive-") (spelled 20 i) in
      omega (arith, a, b, c, length-take-le k path h, length-drop k path)

  module _ {xs y1 y2 y3 y4 : List ℕ} {n : ℕ} where
    pub beside-laid : length path + 30 ≤ length xs
        → Laid (take k path) xs y1 0
        → Laid (ascii ".") y1 y2 k
        → Laid (take (length path - k) (drop k path)) y2 y3 (k + 1)
        → Lined (ascii ".receive-" ++ spelled 20 i) 29 y3 y4 (length path + 1) n
        → Line (beside_of path k i) xs y4 n
    unfolding rest
    beside-laid big v1 v2 v3 v4 =
        let l = length-append (ascii ".receive-") (spelled 20 i) in
        let w3 : Laid (drop k path) y2 y3 (k + 1) =
        subst (λ (bs : List ℕ). Laid bs y2 y3 (k + 1)) (take_all (length path - k) (drop k path) (omega (arith, length-drop k path))) v3
        in
        let w2 = laid-append (drop k path) rest w3 (omega (arith, length-drop k path)) v4.laid in
        let w1 = laid-append (ascii ".") (drop k path ++ rest) v2 (omega arith) w2 in
        record {
          laid = laid-append (take k path) (ascii "." ++ (drop k path ++ rest)) v1 (omega (arith, length-take-le k path h)) w1;
          count = omega (arith, l, v4.ends, beside-length);
          room = omega (arith, l, v4.short, beside-length);
        }

-- ---- it is another file than OUT, in the same folder

pub beside-apart : (path : List ℕ) (k i : ℕ) → k ≤ length path → beside_of path k i ≡ path → ⊥
beside-apart path k i h e = omega (arith, beside-length path k i h, ap length e)

abbrev NoSlash : List ℕ → Type 0
NoSlash xs = (i : ℕ) → i < length xs → get_or xs i 0 ≡ 47 → ⊥

free-append : (xs ys : List ℕ) → NoSlash xs → NoSlash ys → NoSlash (xs ++ ys)
free-append xs ys f g i h e = go (dec_lt i (length xs))
  where
    go : Dec (i < length xs) → ⊥
    go (yes l) = f i l (sym (get_or-append xs ys 0 i l) ∙ e)
    go (no l) =
        let q : length xs + (i - length xs) ≡ i = omega arith in
        g (i - length xs) (omega (arith, length-append xs ys))
        (sym (get_or-append-add xs ys (i - length xs) 0) ∙ ap (λ (n : ℕ). get_or (xs ++ ys) n 0) q ∙ e)

free_one : (x : ℕ) → (x ≡ 47 → ⊥) → NoSlash (x ∷ [])
free_one x f zero h e = f e
free_one x f (suc i) h e = absurd (omega arith)

free-spelled : (n x : ℕ) → NoSlash (spelled n x)
unfolding spelled
free-spelled zero x = λ i h e. absurd (omega arith)
free-spelled (suc n) x = go (ltb x 10) (free-spelled n (x / 10))
  where
    go : (b : Bool) → NoSlash (spelled n (x / 10)) → NoSlash (pick b ((48 + x) ∷ []) (spelled n (x / 10) ++ ((48 + x % 10) ∷ [])))
    go true f = free_one (48 + x) (λ e. omega arith)
    go false f = free-append (spelled n (x / 10)) ((48 + x % 10) ∷ []) f (free_one (48 + x % 10) (λ e. omega arith))

free-suffix : NoSlash (ascii ".receive-")
free-suffix i h e = subst (λ (x : ℕ). T (not (eqb x 47))) e (under 9 (λ k. not (eqb (get_or (ascii ".receive-") k 0) 47)) tt i h)

module _ (path : List ℕ) (k i : ℕ) (u : LastPart path k) where
  free-tail : NoSlash (ascii "." ++ (drop k path ++ (ascii ".receive-" ++ spelled 20 i)))
  free-tail =
      free-append (ascii ".") (drop k path ++ (ascii ".receive-" ++ spelled 20 i)) (free_one 46 (λ e. omega arith))
      (free-append (drop k path) (ascii ".receive-" ++ spelled 20 i)
      (λ j h e. u.none (k + j) (omega (arith, length-drop k path)) (omega arith) (sym (get_or-drop k path j 0) ∙ e))
      (free-append (ascii ".receive-") (spelled 20 i) free-suffix (free-spelled 20 i)))

  -- its last part begins where that of the path does
  pub beside-last : LastPart (beside_of path k i) k
  beside-last =
      let t = ascii "." ++ (drop k path ++ (ascii ".receive-" ++ spelled 20 i)) in
      let l : length (take k path) ≡ k = length-take-le k path u.inside in
      record {
        inside = omega (arith, beside-length path k i u.inside, u.inside);
        none = λ j h m e.
            let q : length (take k path) + (j - k) ≡ j = omega arith in
            free-tail (j - k) (omega (arith, length-append (take k path) t))
            (sym (get_or-append-add (take k path) t (j - k) 0) ∙ ap (λ (n : ℕ). get_or (take k path ++ t) n 0) q ∙ e);
        slash = λ h. get_or-append (take k path) t 0 (k - 1) (omega arith) ∙ get_or-take k path (k - 1) 0 (omega arith) ∙ u.slash h;
      }

  -- and in front of it stands the same folder
  pub beside-folder : take k (beside_of path k i) ≡ take k path
  beside-folder =
      let t = ascii "." ++ (drop k path ++ (ascii ".receive-" ++ spelled 20 i)) in
      let l : length (take k path) ≡ k = length-take-le k path u.inside in
      take-append-le k (take k path) t (omega arith) ∙ take_all k (take k path) (omega arith)
