-- Transmission information: the check answers 3 exactly when a rule breaks, and object and symbols of what it accepts can be cut
-- (document 01, 'Headers', as document 02, E3, amends it; RFC 6330, 4.4.1.2).
-- Assumes nothing.
use Rattle.std.proofs.Common.{◌≡◌, ℕ, ◌*◌, ◌/◌, ◌%◌, ◌≤◌, Bool, true, false, not, ltb, List, [], ◌∷◌, get_or, sym, refl, ap, ◌∙◌, subst, mul-le-mul_right, mul-pos, one-mul, div-add-mod', le-div_iff_mul-le, arith, ne_eqb}
use Rattle.field.specs.Answer.{given, refused, unless}
use Rattle.field.proofs.Answers.{given-not-refused, refused-only}
use Rattle.field.proofs.Refusals.{passed}
use Rattle.headers.specs.Headers.{InfoObeys, info_checked, info_obeys}
use Rattle.headers.specs.Partition.{Blocks, SubSymbols, parts, partitioned}
use Rattle.headers.specs.Quotient.{ceil}
use Rattle.headers.specs.declared.transmission.ObjectTransmissionInformation.{ObjectTransmissionInformation}
use Rattle.headers.proofs.Parting.{partition-parts, only_parts}
use Rattle.headers.proofs.Quotient.{ceil-enough}
use Rattle.headers.proofs.Tests.{Tells, told, granted, is_true, is_false, tells_both, tells-not, tells_as, tells-le, tells-lt, tells-eq}

-- ---- 3 exactly when a rule breaks

few-tells : (x : ℕ) → Tells (not (ltb 56403 x)) (x ≤ 56403)
few-tells x = tells_as (λ d. omega (arith, d)) (λ h l. omega (arith, h, l)) (tells-not (tells-lt 56403 x))

module _ (o : ObjectTransmissionInformation) where
  pub info-tells : Tells (info_obeys o) (InfoObeys o)
  info-tells =
      tells_as
      (λ h.
      record {
        f-high = h.0;
        al-low = h.1.0;
        aligned = h.1.1.0;
        t-low = h.1.1.1.0;
        z-low = h.1.1.1.1.0;
        n-low = h.1.1.1.1.1.0;
        n-high = h.1.1.1.1.1.1.0;
        k-high = h.1.1.1.1.1.1.1;
      })
      (λ k. (k.f-high, (k.al-low, (k.aligned, (k.t-low, (k.z-low, (k.n-low, (k.n-high, k.k-high))))))))
      (tells_both (tells-le o.transfer_length 942574504275)
      (tells_both (tells-le 1 o.symbol_alignment)
      (tells_both (tells-eq (o.symbol_size % o.symbol_alignment) 0)
      (tells_both (tells-le 1 o.symbol_size)
      (tells_both (tells-le 1 o.num_source_blocks)
      (tells_both (tells-le 1 o.num_sub_blocks)
      (tells_both (tells-le o.num_sub_blocks (o.symbol_size / o.symbol_alignment)) (few-tells _))))))))

  pub info-obeyed : InfoObeys o → info_checked o ≡ given tt
  info-obeyed k = rw (is_true info-tells k)

  pub info-disobeyed : (InfoObeys o → ⊥) → info_checked o ≡ refused 3
  info-disobeyed d = rw (is_false info-tells d)

  pub info-obeying : info_checked o ≡ given tt → InfoObeys o
  info-obeying e = granted (info_obeys o) (passed (not (info_obeys o)) 3 (given tt) tt e).0 (told (info_obeys o) info-tells)

  pub info-refused : (n : ℕ) → info_checked o ≡ refused n → (n ≡ 3) × (InfoObeys o → ⊥)
  info-refused n e = go (info_obeys o) info-tells e
    where
      go : (b : Bool) → Tells b (InfoObeys o) → unless (not b) 3 (given (tt {0})) ≡ refused n → (n ≡ 3) × (InfoObeys o → ⊥)
      go true t q = absurd (given-not-refused tt n q)
      go false t q = (sym (refused-only 3 n q), t.breaks refl)

-- ---- what is accepted can be cut (RFC 6330, 4.4.1.2): both partitions are given, and whatever is given is `SubSymbols` and `Blocks`

given-parts : (i j : ℕ) → 1 ≤ j → partitioned i j ≡ given (parts i j)
given-parts i j h = rw (ne_eqb j 0 (omega arith))

module _ (o : ObjectTransmissionInformation) (k : InfoObeys o) where
  pub sub-symbols-given : partitioned (o.symbol_size / o.symbol_alignment) o.num_sub_blocks
      ≡ given (parts (o.symbol_size / o.symbol_alignment) o.num_sub_blocks)
  sub-symbols-given = given-parts _ _ k.n-low

  pub blocks-given : partitioned (ceil o.transfer_length o.symbol_size) o.num_source_blocks
      ≡ given (parts (ceil o.transfer_length o.symbol_size) o.num_source_blocks)
  blocks-given = given-parts _ _ k.z-low

  pub sub-symbols : (il is jl js : ℕ) → partitioned (o.symbol_size / o.symbol_alignment) o.num_sub_blocks ≡ given (il ∷ is ∷ jl ∷ js ∷ [])
      → SubSymbols o.symbol_size o.num_sub_blocks o.symbol_alignment il is jl js
  sub-symbols il is jl js e =
      let p = partition-parts _ _ il is jl js e in
      let u : 1 ≤ is = subst (λ (x : List ℕ). 1 ≤ get_or x 1 0) (only_parts _ _ _ e) unit in
      record {
        count = p.count;
        whole = ap (λ (x : ℕ). x * o.symbol_alignment) p.whole ∙ omega (arith, k.aligned, div-add-mod' o.symbol_size o.symbol_alignment);
        large = mul-pos (omega (arith, p.less)) k.al-low;
        small = mul-pos u k.al-low;
      }
    where
      -- N units at least, so that one goes to each
      unit : 1 ≤ o.symbol_size / o.symbol_alignment / o.num_sub_blocks
      unit = (le-div_iff_mul-le k.n-low).1 (omega (arith, k.n-high, one-mul o.num_sub_blocks))

  pub blocks : (kl ks zl zs : ℕ) → partitioned (ceil o.transfer_length o.symbol_size) o.num_source_blocks ≡ given (kl ∷ ks ∷ zl ∷ zs ∷ [])
      → Blocks o.transfer_length o.symbol_size o.num_source_blocks kl ks zl zs
  blocks kl ks zl zs e =
      let p = partition-parts _ _ kl ks zl zs e in
      let h : kl ≤ 56403 = subst (λ (x : List ℕ). get_or x 0 0 ≤ 56403) (only_parts _ _ _ e) k.k-high in
      record { count = p.count; whole = p.whole; large = h; small = omega (arith, p.less) }

  -- so that their number fits 32 bits, Z being a byte
  pub symbols-high : ceil o.transfer_length o.symbol_size ≤ 56403 * o.num_source_blocks
  symbols-high =
      omega (
        arith,
        ceil-enough (ceil o.transfer_length o.symbol_size) o.num_source_blocks k.z-low,
        mul-le-mul_right o.num_source_blocks k.k-high,
      )
