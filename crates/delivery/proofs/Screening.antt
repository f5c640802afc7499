-- Screens: one after the other, and what is known of a delivery that passes them.
-- Assumes nothing.
use mathlib.Core.Path.{◌≡◌, sym, ap, ◌∙◌, subst}
use mathlib.Core.List.{List}
use Prim.Native.Nat.{ℕ, ◌≤◌, ◌<◌}
use Rattle.std.specs.Prelude.{Result, Ok, Err}
use borrow.Author.Tests.{lt-ltb, le-ltb, ltb-false}
use lib.Dec.{ltb}
use lib.ListN.{length}
use Rattle.field.specs.Answer.{Outcome, given, refused, before, code_of, outcome}
use Rattle.field.specs.declared.refusal.Refusal.{Refusal}
use Rattle.field.proofs.Refusals.{passed, passed-before}
use Rattle.headers.specs.Headers.{info_checked}
use Rattle.headers.specs.Quotient.{ceil}
use Rattle.headers.specs.Row.{Obeys, verified, checked, l_of}
use Rattle.headers.specs.declared.row.Row.{Row}
use Rattle.headers.specs.declared.transmission.ObjectTransmissionInformation.{ObjectTransmissionInformation}
use Rattle.headers.proofs.Rules.{passed-row}
use Rattle.headers.proofs.Accepted.{accepted, rejected}
use Rattle.headers.proofs.Information.{info-obeying}
use Rattle.delivery.specs.Layout.{info_of, row_in, t_of, k_of}
use Rattle.delivery.specs.Screen.{screened, shape_screen, info_screen, row_screen, tables_screen, rest_screen, screen}
use Rattle.delivery.specs.declared.beneath.screen.Stop.{Stop}

-- an answer that tells of what stands first
module _ {p : Outcome (Unit {0})} (x : Result (Unit {0}) Stop) (q : screened x ≡ p) where
  pub all-passed : x ≡ Ok tt → p ≡ given tt
  all-passed e = sym q ∙ ap screened e

  pub went-past : (o : Outcome (Unit {0})) → x ≡ Ok tt → before p o ≡ o
  went-past o e = ap (λ (y : Outcome (Unit {0})). before y o) (all-passed e)

  pub stopped-at : (o : Outcome (Unit {0})) (why : Stop) → x ≡ Err why → screened x ≡ before p o
  stopped-at o why e = ap screened e ∙ sym (ap (λ (y : Outcome (Unit {0})). before y o) (sym q ∙ ap screened e))

-- ---- what a screen that refuses nothing tells

pub size_low : (o : ObjectTransmissionInformation) → info_screen o ≡ given tt → 0 < o.symbol_size
size_low o e = (info-obeying o (passed-before (info_checked o) (shape_screen o) tt e).1).t-low

pub record RowSound (r : Row) (k t : ℕ) : Type 0 where
  pub rules : Obeys r
  pub k-low : 1 ≤ k
  pub k-high : k ≤ r.kp
  pub t-high : t ≤ 1024
  pub l-high : l_of r ≤ 300

pub row-sound : (r : Row) (k t : ℕ) → row_screen r k t ≡ given tt → RowSound r k t
row-sound r k t e =
    let p1 = passed-row _ tt e in
    let p2 = passed (ltb k 1) 9 _ tt p1.1 in
    let p3 = passed (ltb r.kp k) 9 _ tt p2.1 in
    let p4 = passed (ltb 1024 t) 101 _ tt p3.1 in
    let p5 = passed (ltb 300 (l_of r)) 101 _ tt p4.1 in
    record {
      rules = p1.0;
      k-low = ltb-false k 1 p2.0;
      k-high = ltb-false r.kp k p3.0;
      t-high = ltb-false 1024 t p4.0;
      l-high = ltb-false 300 (l_of r) p5.0;
    }

pub record Sound (d : List ℕ) : Type 0 where
  pub t-low : 0 < t_of d
  pub row : RowSound (row_in d) (k_of d) (t_of d)
  pub whole : 4128 ≤ length d

pub sound : (d : List ℕ) → screen d ≡ given tt → Sound d
unfolding screen
sound d e =
    let p1 = passed (ltb (length d) 32) 8 _ tt e in
    let p2 = passed-before (info_screen (info_of d)) (rest_screen d (k_of d) (t_of d)) tt p1.1 in
    let p3 = passed-before (row_screen (row_in d) (k_of d) (t_of d)) (tables_screen d) tt p2.2 in
    let p4 = passed (ltb (length d) 4128) 5 _ tt p3.2 in
    record { t-low = size_low (info_of d) p2.1; row = row-sound (row_in d) (k_of d) (t_of d) p3.1; whole = ltb-false (length d) 4128 p4.0 }

-- ---- the row of a delivery

module _ (d : List ℕ) (x : Result Row Refusal) (e : outcome x ≡ checked (row_in d)) where
  pub row_read : (r : Row) → x ≡ Ok r → (Obeys r) × (r ≡ row_in d)
  row_read r q =
      let a = accepted (row_in d) r (sym (ap outcome q) ∙ e) in
      (subst Obeys (sym a.1) a.0, a.1)

  pub row-broken : (why : Refusal) → x ≡ Err why → verified (row_in d) ≡ refused (code_of why)
  row-broken why q = rejected (row_in d) (code_of why) (sym (ap outcome q) ∙ e)

-- ---- the ways out of the whole screen

module _ (d : List ℕ) where
  pub too_short : length d < 32 → refused 8 ≡ screen d
  unfolding screen
  too_short h = simp (lt-ltb (length d) 32 h)

  module _ (long : 32 ≤ length d) (o : ObjectTransmissionInformation) (e : o ≡ info_of d) (x : Result (Unit {0}) Stop) (q : screened x ≡ info_screen o) where
    pub info-stopped : (why : Stop) → x ≡ Err why → screened x ≡ screen d
    unfolding screen
    info-stopped why s = rw (le-ltb (length d) 32 long) (stopped-at x (q ∙ ap info_screen e) (rest_screen d (k_of d) (t_of d)) why s)

    pub info-passed : (k : ℕ) {y : Outcome (Unit {0})} → x ≡ Ok tt → k ≡ ceil o.transfer_length o.symbol_size
        → y ≡ rest_screen d k o.symbol_size
        → y ≡ screen d
    unfolding screen
    info-passed k {y} s f u =
        rw (le-ltb (length d) 32 long)
        (u ∙ ap (λ (n : ℕ). rest_screen d n o.symbol_size) f
        ∙ ap (λ (p : ObjectTransmissionInformation). rest_screen d (ceil p.transfer_length p.symbol_size) p.symbol_size) e
        ∙ sym (went-past x (q ∙ ap info_screen e) (rest_screen d (k_of d) (t_of d)) s))

  -- a row that the check refuses stops it there
  pub row-refused : (k t n : ℕ) → verified (row_in d) ≡ refused n → refused n ≡ rest_screen d k t
  row-refused k t n e = simp e

  -- past the row
  module _ (r : Row) (e : r ≡ row_in d) (k t : ℕ) (x : Result (Unit {0}) Stop) (q : screened x ≡ row_screen r k t) where
    pub row-stopped : (why : Stop) → x ≡ Err why → screened x ≡ rest_screen d k t
    row-stopped why s = stopped-at x (q ∙ ap (λ (y : Row). row_screen y k t) e) (tables_screen d) why s

    module _ (s : x ≡ Ok tt) where
      past : rest_screen d k t ≡ tables_screen d
      past = went-past x (q ∙ ap (λ (y : Row). row_screen y k t) e) (tables_screen d) s

      pub tables-cut : length d < 4128 → refused 5 ≡ rest_screen d k t
      tables-cut h = sym (past ∙ simp (lt-ltb (length d) 4128 h))

      pub tables-whole : 4128 ≤ length d → given tt ≡ rest_screen d k t
      tables-whole h = sym (past ∙ simp (le-ltb (length d) 4128 h))
