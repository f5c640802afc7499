-- Counts and lists of ones, a place at a time.
-- Assumes nothing.
use mathlib.Core.Path.{◌≡◌, refl, sym, ap, ap₂, ◌∙◌, subst}
use mathlib.Core.List.{List, [], ◌∷◌, ◌++◌}
use mathlib.Core.Logic.{◌⊎◌, inl, inr, ⊎_elim}
use Prim.Native.Nat.{ℕ, zero, suc, ◌+◌, ◌≤◌, ◌<◌}
use native.Mathlib.Nat.{zero-add, add-zero, add-suc, add_assoc, not-suc-le-zero}
use native.Mathlib.Numerals.{add-one}
use native.Mathlib.Decide.{ℕ_discrete, dec_lt}
use native.Mathlib.Omega.{arith}
use borrow.Author.Tests.{ne_eqb}
use lib.ListN.{length, get_or, length-append, get_or-append}
use lib.Seq.{get_or-append-add}
use Rattle.field.specs.Runs.{Written}
use Rattle.field.proofs.Writing.{written_none, written_is, written_from, written_as}
use Rattle.field.proofs.Parts.{written_then}
use Rattle.field.specs.Ones.{ones}
use Rattle.stores.specs.Counting.{tally, Listed}

module _ (f : ℕ → ℕ) (start : ℕ) where
  pub tally-none : tally f start 0 ≡ 0
  unfolding tally
  tally-none = refl

  ones-zero : (n : ℕ) → f (start + n) ≡ 0 → ones f start (n + 1) ≡ ones f start n
  unfolding ones
  ones-zero n e = rw (add-one, e)

  ones-one : (n : ℕ) → f (start + n) ≡ 1 → ones f start (n + 1) ≡ ones f start n ++ ((start + n) ∷ [])
  unfolding ones
  ones-one n e = rw (add-one, e)

  pub listed-none : (xs : List ℕ) → Listed f start 0 xs xs 0
  unfolding ones
  listed-none xs = record { many = refl; written = written_none _ _ _ }

  listed_by : {xs ys : List ℕ} {n r : ℕ} (l : List ℕ) → ones f start n ≡ l → r ≡ length l → Written (λ k. get_or l k 0) xs ys 0 r → Listed f start n xs ys r
  listed_by {xs} {ys} {n} {r} l e many w =
      record { many = many ∙ ap length (sym e); written = subst (λ (i : List ℕ). Written (λ k. get_or i k 0) xs ys 0 r) (sym e) w }

  -- a place more, listed if it holds a one
  module _ {xs ys zs : List ℕ} {n m r : ℕ} (l : Listed f start n xs ys m) (few : f (start + n) < 2)
      (u : Written (λ k. start + n) ys zs m (f (start + n))) (e : r ≡ m + f (start + n)) where
    pub listed_more : Listed f start (n + 1) xs zs r
    listed_more = go (ℕ_discrete (f (start + n)) 0)
      where
        behind : {v : ℕ} → f (start + n) ≡ v → Written (λ k. start + n) ys zs (0 + m) v
        behind q = written_from (written_is u q) (sym (zero-add m))

        go : Dec (f (start + n) ≡ 0) → Listed f start (n + 1) xs zs r
        go (yes q) =
            listed_by (ones f start n) (ones-zero n q) (e ∙ ap (λ (v : ℕ). m + v) q ∙ add-zero m ∙ l.many)
            (written_is (written_then l.written (behind q) (λ k h. absurd (omega arith))) (omega arith))
        go (no d) =
            let q : f (start + n) ≡ 1 = omega arith in
            let long : r ≡ length (ones f start n ++ ((start + n) ∷ [])) = omega (arith, l.many, length-append (ones f start n) ((start + n) ∷ [])) in
            listed_by (ones f start n ++ ((start + n) ∷ [])) (ones-one n q) long
            (written_is
            (written_then
            (written_as l.written (λ k h. sym (get_or-append (ones f start n) ((start + n) ∷ []) 0 k (omega (arith, l.many)))))
            (behind q) last) (omega arith))
          where
            last : (k : ℕ) → k < 1 → start + n ≡ get_or (ones f start n ++ ((start + n) ∷ [])) (m + k) 0
            last k h =
                let z : m + k ≡ length (ones f start n) + 0 = omega (arith, l.many) in
                sym (ap (λ (i : ℕ). get_or (ones f start n ++ ((start + n) ∷ [])) i 0) z ∙ get_or-append-add (ones f start n) ((start + n) ∷ []) 0 0)

  pub listed-is : {xs ys : List ℕ} {n k m : ℕ} → Listed f start n xs ys m → n ≡ k → Listed f start k xs ys m
  listed-is {xs} {ys} {n} {k} {m} l e = subst (λ (i : ℕ). Listed f start i xs ys m) e l

  pub tally-le : ((k : ℕ) → f k < 2) → (n : ℕ) → tally f start n ≤ n
  unfolding tally
  tally-le h zero = omega arith
  tally-le h (suc n) = omega (arith, tally-le h n, h (start + n))

  -- one place more of a list
  grown : (n : ℕ) → ((f (start + n) ≡ 0) × (ones f start (suc n) ≡ ones f start n))
      ⊎ ((f (start + n) ≡ 0 → ⊥) × (ones f start (suc n) ≡ ones f start n ++ ((start + n) ∷ [])))
  unfolding ones
  grown n = go (ℕ_discrete (f (start + n)) 0)
    where
      go : Dec (f (start + n) ≡ 0) → ((f (start + n) ≡ 0) × (ones f start (suc n) ≡ ones f start n))
          ⊎ ((f (start + n) ≡ 0 → ⊥) × (ones f start (suc n) ≡ ones f start n ++ ((start + n) ∷ [])))
      go (yes e) = inl (e, rw e)
      go (no d) = inr (d, rw (ne_eqb (f (start + n)) 0 d))

  -- a list has as many places as are counted
  pub ones-tally : ((k : ℕ) → f k < 2) → (n : ℕ) → length (ones f start n) ≡ tally f start n
  unfolding tally ones
  ones-tally h zero = refl
  ones-tally h (suc n) =
      let r = ones-tally h n in
      ⊎_elim (λ a. ap length a.1 ∙ omega arith)
      (λ a. ap length a.1 ∙ length-append (ones f start n) ((start + n) ∷ []) ∙ omega (arith, r, h (start + n), a.0))
      (grown n)

  -- a place in the range that holds a one
  abbrev pub Hit : ℕ → ℕ → Type 0
  Hit n p = (start ≤ p) × (p < start + n) × (f p ≡ 0 → ⊥)

  further : (n p : ℕ) → Hit n p → Hit (suc n) p
  further n p t = (t.0, omega (arith, t.1), t.2)

  in-last : (n k : ℕ) → (l : List ℕ) → ((i : ℕ) → i < length l → Hit n (get_or l i 0)) → (f (start + n) ≡ 0 → ⊥) → k < length (l ++ ((start + n) ∷ []))
      → Hit (suc n) (get_or (l ++ ((start + n) ∷ [])) k 0)
  in-last n k l r d h = go (dec_lt k (length l))
    where
      go : Dec (k < length l) → Hit (suc n) (get_or (l ++ ((start + n) ∷ [])) k 0)
      go (yes b) = subst (Hit (suc n)) (sym (get_or-append l ((start + n) ∷ []) 0 k b)) (further n (get_or l k 0) (r k b))
      go (no b) =
          let z : length l + 0 ≡ k = omega (arith, length-append l ((start + n) ∷ [])) in
          subst (λ (i : ℕ). Hit (suc n) (get_or (l ++ ((start + n) ∷ [])) i 0)) z
          (subst (Hit (suc n)) (sym (get_or-append-add l ((start + n) ∷ []) 0 0)) (omega arith, omega arith, d))

  -- each place that is listed is one of these
  pub ones-hit : (n k : ℕ) → k < length (ones f start n) → Hit n (get_or (ones f start n) k 0)
  unfolding ones
  ones-hit zero k h = absurd (not-suc-le-zero h)
  ones-hit (suc n) k h =
      ⊎_elim
      (λ a. subst (λ (l : List ℕ). Hit (suc n) (get_or l k 0)) (sym a.1) (further n (get_or (ones f start n) k 0) (ones-hit n k (subst (λ (l : List ℕ). k < length l) a.1 h))))
      (λ a. subst (λ (l : List ℕ). Hit (suc n) (get_or l k 0)) (sym a.1)
      (in-last n k (ones f start n) (λ i b. ones-hit n i b) a.0 (subst (λ (l : List ℕ). k < length l) a.1 h)))
      (grown n)

  -- and each of these is listed
  pub ones-all : (n p : ℕ) → Hit n p → (k : ℕ) × (k < length (ones f start n)) × (get_or (ones f start n) k 0 ≡ p)
  unfolding ones
  ones-all zero p t = absurd (omega (arith, t.0, t.1))
  ones-all (suc n) p t = go (ℕ_discrete p (start + n)) (λ u. ones-all n p u)
    where
      Found : List ℕ → Type 0
      Found l = (k : ℕ) × (k < length l) × (get_or l k 0 ≡ p)

      longer : (l : List ℕ) → Found l → Found (l ++ ((start + n) ∷ []))
      longer l (k, b, e) = (k, omega (arith, length-append l ((start + n) ∷ [])), get_or-append l ((start + n) ∷ []) 0 k b ∙ e)

      last : (l : List ℕ) → p ≡ start + n → Found (l ++ ((start + n) ∷ []))
      last l e = (length l + 0, omega (arith, length-append l ((start + n) ∷ [])), get_or-append-add l ((start + n) ∷ []) 0 0 ∙ sym e)

      go : Dec (p ≡ start + n) → (Hit n p → Found (ones f start n)) → Found (ones f start (suc n))
      go (yes e) r =
          ⊎_elim (λ a. absurd (t.2 (ap f e ∙ a.0))) (λ a. subst Found (sym a.1) (last (ones f start n) e)) (grown n)
      go (no d) r =
          let u = r (t.0, omega (arith, t.1, d), t.2) in
          ⊎_elim (λ a. subst Found (sym a.1) u) (λ a. subst Found (sym a.1) (longer (ones f start n) u)) (grown n)

-- counts of what agrees are equal
pub tally-same : (f g : ℕ → ℕ) (start from n : ℕ) → ((k : ℕ) → k < n → f (start + k) ≡ g (from + k)) → tally f start n ≡ tally g from n
unfolding tally
tally-same f g start from zero e = refl
tally-same f g start from (suc n) e = ap₂ ◌+◌ (tally-same f g start from n (λ k h. e k (omega arith))) (e n (omega arith))

-- a count in two parts
pub tally-split : (f : ℕ → ℕ) (start n m : ℕ) → tally f start (n + m) ≡ tally f start n + tally f (start + n) m
unfolding tally
tally-split f start n zero = ap (tally f start) (add-zero n) ∙ sym (add-zero (tally f start n))
tally-split f start n (suc m) =
    let q : start + (n + m) ≡ start + n + m = omega arith in
    ap (tally f start) (add-suc n m) ∙ ap₂ ◌+◌ (tally-split f start n m) (ap f q) ∙ add_assoc (tally f start n) (tally f (start + n) m) (f (start + n + m))
