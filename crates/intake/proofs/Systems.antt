-- The systems that an intake goes through: what the stores say does not depend on the order of the equations, a packet adds one, and the rows that row,
-- tables and K fix complete the solver's system.
-- Assumes nothing.
use mathlib.Core.Path.{◌≡◌, sym, ap, ◌∙◌}
use mathlib.Core.List.{List, [], ◌∷◌, ◌++◌}
use Prim.Native.Nat.{ℕ, ◌+◌, ◌*◌, ◌<◌}
use native.Mathlib.Decide.{dec_lt}
use native.Mathlib.Omega.{arith}
use lib.ListN.{length, get_or, length-append, get_or-append}
use lib.Seq.{get_or-append_seam, get_or-append-add}
use Rattle.headers.specs.declared.row.Row.{Row}
use Rattle.linear.specs.System.{System, SameEquation, OneOf, Included, joined}
use Rattle.linear.specs.Octets.{octets}
use Rattle.linear.specs.Elimination.{Holds}
use Rattle.linear.proofs.Bytes.{cell-lt}
use Rattle.linear.proofs.Growth.{included-octets, same-contradiction}
use Rattle.linear.proofs.Joined.{one_then, same-turned, included-self, included-then, included-first, included-second}
use Rattle.linear.proofs.Joined.{included-both, included-parts}
use Rattle.linear.proofs.Span.{within-trans}
use Rattle.linear.proofs.System.{follows-included}
use Rattle.std.specs.Prelude.{Option, Some, None}
use Rattle.solver.specs.System.{hdpc_rows, sent_row, arrival_rows, fixed_with, system_of}
use Rattle.intake.specs.Taking.{Says, single}

-- the same equations, in any order
pub record Alike (L T : ℕ) (S R : System ℕ) : Type 0 where
  pub to : Included L T S R
  pub back : Included L T R S

module _ {L T : ℕ} where
  pub alike_self : (S : System ℕ) → Alike L T S S
  alike_self S = record { to = included-self S; back = included-self S }

  pub alike_then : {S R Q : System ℕ} → Alike L T S R → Alike L T R Q → Alike L T S Q
  alike_then f g = record { to = included-then f.to g.to; back = included-then g.back f.back }

  pub alike_turned : {S R : System ℕ} → Alike L T S R → Alike L T R S
  alike_turned f = record { to = f.back; back = f.to }

  pub alike-parts : (S R Q P : System ℕ) → Alike L T S Q → Alike L T R P → Alike L T (joined S R) (joined Q P)
  alike-parts S R Q P f g = record { to = included-parts L T S R Q P f.to g.to; back = included-parts L T Q P S R f.back g.back }

  -- a sum with nothing
  pub alike-none : (S R : System ℕ) → R.count ≡ 0 → Alike L T S (joined S R)
  alike-none S R e = record { to = included-first L T S R; back = included-both L T S R (included-self S) (λ i h. absurd (omega (arith, e))) }

  pub alike-turn : (S R : System ℕ) → Alike L T (joined S R) (joined R S)
  alike-turn S R = record {
    to = included-both L T S R (included-second L T R S) (included-first L T R S);
    back = included-both L T R S (included-second L T S R) (included-first L T S R);
  }

  pub alike-shift : (S R Q : System ℕ) → Alike L T (joined (joined S R) Q) (joined S (joined R Q))
  alike-shift S R Q = record {
    to = included-both L T (joined S R) Q
        (included-both L T S R (included-first L T S (joined R Q)) (included-then (included-first L T R Q) (included-second L T S (joined R Q))))
        (included-then (included-second L T R Q) (included-second L T S (joined R Q)));
    back = included-both L T S (joined R Q)
        (included-then (included-first L T S R) (included-first L T (joined S R) Q))
        (included-both L T R Q (included-then (included-second L T S R) (included-first L T (joined S R) Q)) (included-second L T (joined S R) Q));
  }

-- ---- what the stores say of the one they say of the other

holds-alike : {n L T : ℕ} {S R : System ℕ} {a d : List ℕ} → Alike L T S R → Holds n L T S a d → Holds n L T R a d
holds-alike {L = L} {T = T} f h = record {
  to = within-trans octets h.to (follows-included octets L T (included-octets f.to));
  back = within-trans octets (follows-included octets L T (included-octets f.back)) h.back;
}

pub says-alike : {L T : ℕ} {S R : System ℕ} (ps a d : List ℕ) (p : Option ℕ) → Alike L T S R → Says L T S ps a d p → Says L T R ps a d p
says-alike ps a d (Some r) f s = (s.0, holds-alike f s.1)
says-alike ps a d None f s = same-contradiction f.to f.back s

-- ---- a packet more: e with the symbol s, behind es and xs

module _ (v : List ℕ) (r : Row) (k t e : ℕ) (es xs s : List ℕ) (all : length xs ≡ length es * t) (L : ℕ) where
  abbrev old : System ℕ
  old = arrival_rows v r k t es xs

  abbrev all_of : System ℕ
  all_of = arrival_rows v r k t (es ++ (e ∷ [])) (xs ++ s)

  abbrev new : System ℕ
  new = single (sent_row v r k e) (λ b. get_or s b 0)

  first-same : (i : ℕ) → i < length es → SameEquation L t old i all_of i
  first-same i h = record {
    coefs = λ c l. ap (λ (x : ℕ). sent_row v r k x c) (sym (get_or-append es (e ∷ []) 0 i h));
    bytes = λ b l. sym (get_or-append xs s 0 (i * t + b) (omega (arith, all, cell-lt t (length es) i b h l)));
  }

  last-same : SameEquation L t new 0 all_of (length es)
  last-same = record {
    coefs = λ c l. ap (λ (x : ℕ). sent_row v r k x c) (sym (get_or-append_seam es e [] 0));
    bytes = λ b l. sym (ap (λ (n : ℕ). get_or (xs ++ s) (n + b) 0) (sym all) ∙ get_or-append-add xs s b 0);
  }

  packet-to : Included L t (joined old new) all_of
  packet-to = included-both L t old new (λ i h. (i, omega (arith, length-append es (e ∷ [])), first-same i h))
      (λ i h. (length es, omega (arith, length-append es (e ∷ [])), record { coefs = last-same.coefs; bytes = last-same.bytes }))

  packet-back : Included L t all_of (joined old new)
  packet-back i h = go (dec_lt i (length es))
    where
      go : Dec (i < length es) → OneOf L t all_of i (joined old new)
      go (yes l) = one_then (same-turned (first-same i l)) (included-first L t old new i l)
      go (no l) =
          let q : i ≡ length es = omega (arith, length-append es (e ∷ [])) in
          rw q (one_then (same-turned last-same) (included-second L t old new 0 (omega arith)))

  -- the arrivals with that one
  pub packet-more : Alike L t (joined old new) all_of
  packet-more = record { to = packet-to; back = packet-back }

  -- and the solver's system
  pub system-more : Alike L t (joined (system_of r v k t es xs) new) (system_of r v k t (es ++ (e ∷ [])) (xs ++ s))
  system-more =
      let Z : System ℕ = fixed_with (hdpc_rows v r) v r k in
      alike_then (alike-shift Z old new) (alike-parts Z (joined old new) Z all_of (alike_self Z) packet-more)

-- ---- the arrivals with the rows that are fixed

pub system-whole : (L T : ℕ) (v : List ℕ) (r : Row) (k t : ℕ) (es xs : List ℕ) {R : System ℕ} → Alike L T R (fixed_with (hdpc_rows v r) v r k)
    → Alike L T (joined (arrival_rows v r k t es xs) R) (system_of r v k t es xs)
system-whole L T v r k t es xs {R} f =
    let Z : System ℕ = fixed_with (hdpc_rows v r) v r k in
    let A : System ℕ = arrival_rows v r k t es xs in
    alike_then (alike-turn A R) (alike-parts R A Z A f (alike_self A))
