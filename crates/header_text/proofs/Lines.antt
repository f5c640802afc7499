-- Lines follow each other, and the digits of std are those of the definition.
-- Assumes nothing.
use Rattle.std.proofs.Common.{◌≡◌, ℕ, ◌+◌, ◌^◌, ◌<◌, ◌≤◌, min, List, [], ◌∷◌, ◌++◌, length, take, drop, sym, refl, ap, ap₂, ◌∙◌, subst, arith, append_assoc, length-append, length-take-le, length-drop, lt-ltb, le-ltb, eq-eqb}
use native.Mathlib.Decide.{dec_lt, ℕ_discrete}
use borrow.Author.Tests.{ne_eqb}
use lib.ListN.{length-take, drop_of_length-le}
use lib.Seq.{take_all}
use Rattle.std.specs.Fmt.{decimal}
use Rattle.std.proofs.lemmas.Fmt.{AppendsLastDigit, decimal_from_appends, length-decimal-le}
use Rattle.field.specs.Answer.{Outcome}
use Rattle.headers.specs.Bytes.{Laid}
use Rattle.headers.specs.Headers.{read_id, read_info}
use Rattle.headers.specs.declared.transmission.ObjectTransmissionInformation.{ObjectTransmissionInformation}
use Rattle.headers.proofs.Bytes.{laid-append}
use Rattle.header_text.specs.Counts.{IsPrefixLen}
use Rattle.header_text.specs.Text.{Lined, line, spelled, refused_line, told, text_of}

module _ (bs cs : List ℕ) {m n : ℕ} {xs ys zs : List ℕ} {at to next : ℕ} where
  pub lined-append : Lined bs m xs ys at to → Lined cs n ys zs to next → Lined (bs ++ cs) (m + n) xs zs at next
  lined-append u w =
      record {
        laid = laid-append bs cs u.laid u.ends w.laid;
        ends = omega (arith, u.ends, w.ends, length-append bs cs);
        short = omega (arith, u.short, w.short, length-append bs cs);
      }

spelled-appends : AppendsLastDigit spelled
unfolding spelled
spelled-appends = record { one = λ k n h. rw (lt-ltb n 10 h); more = λ k n h. rw (le-ltb n 10 h) }

-- 64 bits take at most 20 digits
pub decimal-short : (x : ℕ) → x < 2 ^ 64 → length (decimal x) ≤ 20
decimal-short x h = length-decimal-le 20 x (omega arith) (omega arith) h

-- and std's are those of the definition
pub decimal-spelled : (x : ℕ) → x < 2 ^ 64 → decimal x ≡ spelled 20 x
decimal-spelled x h = sym (decimal_from_appends spelled spelled-appends 20 x h (decimal-short x h))

-- another name for the text
pub lined-is : {bs cs : List ℕ} {m : ℕ} {xs ys : List ℕ} {at to : ℕ} → Lined bs m xs ys at to → bs ≡ cs → Lined cs m xs ys at to
lined-is {bs} {cs} {m} {xs} {ys} {at} {to} u e = subst (λ (ds : List ℕ). Lined ds m xs ys at to) e u

-- the same line of an equal number
pub line-of : (label : List ℕ) {x y m : ℕ} {xs ys : List ℕ} {at to : ℕ} → Lined (line label x) m xs ys at to → x ≡ y → Lined (line label y) m xs ys at to
line-of label u e = lined-is u (ap (line label) e)

-- a larger bound
pub lined-most : {bs : List ℕ} {m n : ℕ} {xs ys : List ℕ} {at to : ℕ} → Lined bs m xs ys at to → m ≤ n → Lined bs n xs ys at to
lined-most u h = record { laid = u.laid; ends = u.ends; short = omega (arith, u.short) }

-- a text of two parts goes on
module _ (ws cs bs : List ℕ) {m n : ℕ} {xs ys zs : List ℕ} {at to next : ℕ} where
  pub lined_on : Lined (ws ++ cs) m xs ys at to → Lined bs n ys zs to next → Lined (ws ++ (cs ++ bs)) (m + n) xs zs at next
  lined_on u w = lined-is (lined-append (ws ++ cs) bs u w) (append_assoc ws cs bs)

-- a label, and the digits of a number
module _ (label : List ℕ) {ds : List ℕ} (x : ℕ) {xs ys zs : List ℕ} {at : ℕ} where
  pub numbered-laid : ds ≡ decimal x → x < 2 ^ 64 → Laid label xs ys at → Laid ds ys zs (at + length label)
      → Lined (label ++ spelled 20 x) (length label + 20) xs zs at (at + length label + length ds)
  numbered-laid e h u v =
      let l : length (label ++ ds) ≡ length label + length ds = length-append label ds in
      let k : length ds ≤ 20 = omega (arith, ap length e, decimal-short x h) in
      lined-is (record { laid = laid-append label ds u refl v; ends = omega (arith, l); short = omega (arith, l, k) })
      (ap (λ (cs : List ℕ). label ++ cs) (e ∙ decimal-spelled x h))

-- and with a line feed
module _ (label : List ℕ) (x : ℕ) {xs ys zs : List ℕ} {at to : ℕ} where
  pub line-lined : Lined (label ++ spelled 20 x) (length label + 20) xs ys at to → Laid (10 ∷ []) ys zs to
      → Lined (line label x) (length label + 21) xs zs at (to + 1)
  line-lined u w =
      let v : Lined (10 ∷ []) 1 ys zs to (to + 1) = record { laid = w; ends = refl; short = omega arith } in
      lined-most (lined_on label (spelled 20 x) (10 ∷ []) u v) (omega arith)

-- the place where a text from the front ends counts its bytes
pub lined-counts : {bs : List ℕ} {m : ℕ} {xs ys : List ℕ} {to : ℕ} → Lined bs m xs ys 0 to → m ≤ length xs → IsPrefixLen to ys
lined-counts {bs} {m} {xs} {ys} {to} u h =
    let l : to ≤ length ys = omega (arith, u.ends, u.short, u.laid.size) in
    (l, sym (length-take-le to ys l))

-- where the input is cut does not matter, if it is after the twelfth byte or at the end
pub cut : (s : List ℕ) (n : ℕ) → n ≡ min (length s) 12 → (take n s ≡ take 12 s) × (drop n s ≡ drop 12 s)
cut s n e = go (dec_lt (length s) 12)
  where
    go : Dec (length s < 12) → (take n s ≡ take 12 s) × (drop n s ≡ drop 12 s)
    go (yes l) = (
      take_all n s (omega arith) ∙ sym (take_all 12 s (omega arith)),
      drop_of_length-le s {i = n} (omega arith) ∙ sym (drop_of_length-le s {i = 12} (omega arith)),
    )
    go (no l) =
        let m : n ≡ 12 = omega arith in
        (ap (λ (k : ℕ). take k s) m, ap (λ (k : ℕ). drop k s) m)

-- so the text is that of the two parts
pub text-is : (s rest : List ℕ) (n : ℕ) (o : Outcome ObjectTransmissionInformation) → n ≡ min (length s) 12 → o ≡ read_info (take n s) → rest ≡ drop n s
    → told o (read_id rest) ≡ text_of s
text-is s rest n o e q r =
    ap₂ (λ (x : Outcome ObjectTransmissionInformation) (y : List ℕ). told x (read_id y)) (q ∙ ap read_info (cut s n e).0) (r ∙ (cut s n e).1)

-- document 01: any other input length prints only `refused 8`
pub text-refused : (s : List ℕ) → (length s ≡ 16 → ⊥) → text_of s ≡ refused_line 8
text-refused s d = go (ℕ_discrete (length (take 12 s)) 12) (ℕ_discrete (length (drop 12 s)) 4)
  where
    go : Dec (length (take 12 s) ≡ 12) → Dec (length (drop 12 s) ≡ 4) → text_of s ≡ refused_line 8
    go (no l) m = rw (ne_eqb (length (take 12 s)) 12 l)
    go (yes l) (no m) = rw (eq-eqb (length (take 12 s)) 12 l, ne_eqb (length (drop 12 s)) 4 m)
    go (yes l) (yes m) = absurd (d (omega (arith, length-take 12 s, length-drop 12 s)))
