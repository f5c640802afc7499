-- The step of a packet, and that of the rows that are fixed, in the words of the state.
-- Assumes nothing.
use mathlib.Core.Path.{◌≡◌, sym, ap, ◌∙◌, subst}
use mathlib.Core.List.{List}
use Prim.Native.Nat.{ℕ, ◌≤◌, ◌<◌}
use native.Mathlib.Omega.{arith}
use lib.ListN.{length, get_or, take, drop, replicate, length-replicate}
use lib.Seq.{length-take-le}
use Rattle.field.proofs.Parts.{part_length}
use Rattle.headers.specs.Row.{Obeys, l_of}
use Rattle.headers.specs.declared.row.Row.{Row}
use Rattle.linear.specs.System.{System}
use Rattle.elimination.specs.Steps.{StoresRoom, Pivots}
use Rattle.elimination.specs.Taking.{Wide}
use Rattle.std.specs.Prelude.{Option, Some, None}
use Rattle.solver.specs.System.{sent_row}
use Rattle.intake.specs.Taking.{Adds, Fixing, Placed, Takable, single}
use Rattle.intake.specs.State.{Begun, Numbers, row_in, k_in, t_in, tables_in, l_in, progress_in, held_by}
use Rattle.intake.specs.Night.{Packet}
use Rattle.intake.proofs.Steps.{adds-alike, buffered, buffered-is}

-- ---- the numbers

pub tables-long : (st : List ℕ) → 1037 ≤ length st → length (take 1024 (drop 13 st)) ≡ 1024
tables-long st h = part_length st 13 1024 (omega arith)

pub own-l : {st : List ℕ} {r : Row} → Numbers st → r ≡ row_in st → r.l ≡ l_in st
own-l n q = ap (λ (x : Row). x.l) q ∙ n.rules.derived.l-fits

pub own-rules : {st : List ℕ} {r : Row} → Numbers st → r ≡ row_in st → Obeys r
own-rules n q = subst Obeys (sym q) n.rules

pub pivots-for : {st ps : List ℕ} → Begun st ps → Pivots (l_in st) ps
pivots-for b = record { enough = b.places; small = b.numbers.rules.l-high }

-- the first l of n places that hold 0
pub front-long : (n l : ℕ) → l ≤ n → length {A = ℕ} (take l (replicate n 0)) ≡ l
front-long n l h = length-take-le l (replicate n 0) (omega (arith, length-replicate {A = ℕ} n 0))

-- the buffers are as wide as the row and the symbol that were laid
pub wide-as : (st s : List ℕ) {r : Row} {l t : ℕ} {x y : List ℕ} → r ≡ row_in st → l ≡ l_in st → length s ≡ t → Wide (l_of r) (length s) x y → Wide l t x y
wide-as st s q e f w = record { row = w.row ∙ ap l_of q ∙ sym e; symbol = w.symbol ∙ f }

-- how many are held fits a word
pub held_small : (L : ℕ) (ps : List ℕ) (q : Option ℕ) → L ≤ 65535 → Placed L ps q → held_by q ≤ 65535
held_small L ps (Some r) h p = omega (arith, p.0)
held_small L ps None h p = omega arith

-- one more may be taken, by the numbers that the code has
pub begun-takable : {st ps a d : List ℕ} (l t : ℕ) (p : Option ℕ) → Begun st ps → StoresRoom (l_in st) (l_in st) (t_in st) a d → l ≡ l_in st → t ≡ t_in st
    → p ≡ progress_in st → Takable l t ps a d p
begun-takable {st} {ps} {a} {d} l t p b room e f o =
    subst (λ (x : ℕ). Takable x t ps a d p) (sym e)
    (subst (λ (x : ℕ). Takable (l_in st) x ps a d p) (sym f)
    (subst (Takable (l_in st) (t_in st) ps a d) (sym o) (record { room = room; pivots = pivots-for b; placed = b.placed })))

-- and what it added, in the words of the state
pub adds-in : (st ps a d : List ℕ) (l t : ℕ) (R : System ℕ) (ps₁ a₁ d₁ : List ℕ) (p w : Option ℕ) → l ≡ l_in st → t ≡ t_in st → p ≡ progress_in st
    → Adds l t R ps a d ps₁ a₁ d₁ p w → Adds (l_in st) (t_in st) R ps a d ps₁ a₁ d₁ (progress_in st) w
adds-in st ps a d l t R ps₁ a₁ d₁ p w e f o u =
    subst (λ (z : Option ℕ). Adds (l_in st) (t_in st) R ps a d ps₁ a₁ d₁ z w) o
    (subst (λ (z : ℕ). Adds (l_in st) z R ps a d ps₁ a₁ d₁ p w) f (subst (λ (z : ℕ). Adds z t R ps a d ps₁ a₁ d₁ p w) e u))

-- ---- a packet

module _ {e : ℕ} {s st ps a d : List ℕ} (k : Packet e s st ps a d) (l t : ℕ) (is : l ≡ l_in st) (wide : t ≡ t_in st) {p : Option ℕ} (o : p ≡ progress_in st) where
  pub packet-adds : {r : Row} (x y ps₁ a₁ d₁ : List ℕ) (w : Option ℕ) → r ≡ row_in st
      → ((c : ℕ) → c < l_of r → get_or x c 0 ≡ sent_row (tables_in st) r (k_in st) e c) → ((b : ℕ) → b < length s → get_or y b 0 ≡ get_or s b 0)
      → Adds l t (buffered x y) ps a d ps₁ a₁ d₁ p w
      → Adds (l_in st) (t_in st) (single (sent_row (tables_in st) (row_in st) (k_in st) e) (λ b. get_or s b 0)) ps a d ps₁ a₁ d₁ (progress_in st) w
  packet-adds x y ps₁ a₁ d₁ w q row symbol u =
      adds-alike (buffered x y) _ ps a d ps₁ a₁ d₁ (progress_in st) w
      (buffered-is (sent_row (tables_in st) (row_in st) (k_in st) e) (λ b. get_or s b 0) x y
      (subst (λ (z : Row). (c : ℕ) → c < l_of z → get_or x c 0 ≡ sent_row (tables_in st) z (k_in st) e c) q row) (λ b h. symbol b (omega (arith, k.size))))
      (adds-in st ps a d l t (buffered x y) ps₁ a₁ d₁ p w is wide o u)

-- ---- the rows that are fixed

pub own-fixing : {st : List ℕ} {r : Row} → Numbers st → r ≡ row_in st → Fixing r (tables_in st) (k_in st)
own-fixing {st} n q = record {
  rules = own-rules n q;
  tables = tables-long st n.size;
  k-low = n.counts.k-low;
  k-high = subst (λ (r : Row). k_in st ≤ r.kp) (sym q) n.counts.k-high;
}
