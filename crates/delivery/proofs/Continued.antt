-- A delivery that goes on by one packet: its head stays what it was, and it is heard as the packets before it and this one.
-- Assumes nothing.
use mathlib.Core.Path.{◌≡◌, refl, sym, ap, ap₂, ◌∙◌}
use mathlib.Core.List.{List, [], ◌∷◌, ◌++◌}
use Prim.Native.Nat.{ℕ, zero, suc, ◌+◌, ◌-◌, ◌*◌, ◌/◌, ◌%◌, ◌≤◌, ◌<◌}
use native.Mathlib.Nat.{add-mul, div-add-mod', one-mul}
use native.Mathlib.Omega.{arith}
use borrow.Author.Tests.{le-ltb}
use lib.Arith.{digits_div}
use lib.ListN.{length, take, drop, length-append, get_or-append}
use lib.Seq.{drop-append_seam, ext_get_or, take_all}
use Rattle.field.specs.Answer.{Outcome, before, given}
use Rattle.field.specs.Choice.{pick}
use Rattle.field.proofs.Parts.{part_at, part_length}
use Rattle.headers.specs.Bytes.{number}
use Rattle.headers.specs.Row.{row_of}
use Rattle.headers.specs.Quotient.{ceil}
use Rattle.headers.specs.declared.row.Row.{Row}
use Rattle.headers.specs.declared.transmission.ObjectTransmissionInformation.{ObjectTransmissionInformation}
use Rattle.linear.specs.Bytes.{tabulate}
use Rattle.linear.proofs.Bytes.{length-tabulate, get_d_tabulate}
use Rattle.intake.specs.Night.{Stretch}
use Rattle.delivery.specs.Layout.{info_of, row_in, entry_at, tables_of, k_of, t_of, n_of, count_of, left_of}
use Rattle.delivery.specs.Layout.{packet_at, packet_of, is_own, esi_of, symbol_of, esis_in, symbols_in}
use Rattle.delivery.specs.Screen.{info_screen, row_screen, screen}
use Rattle.delivery.specs.Hearing.{hearing, stretch_at, stretch_of}
use Rattle.delivery.proofs.Gathering.{packet-ends}
use Rattle.delivery.proofs.Settling.{stretch-more}

five : {A : Type 0} (f : ℕ → ℕ → ℕ → ℕ → ℕ → A) {a b c d e a₁ b₁ c₁ d₁ e₁ : ℕ} → a ≡ a₁ → b ≡ b₁ → c ≡ c₁ → d ≡ d₁ → e ≡ e₁
    → f a b c d e ≡ f a₁ b₁ c₁ d₁ e₁
five f {a} {b} {c} {d} {e} {a₁} {b₁} {c₁} {d₁} p q r s t =
    ap (λ (x : ℕ). f x b c d e) p ∙ ap (λ (x : ℕ). f a₁ x c d e) q ∙ ap (λ (x : ℕ). f a₁ b₁ x d e) r ∙ ap₂ (f a₁ b₁ c₁) s t

-- what decides where all of the head is there
abbrev head_screen : ObjectTransmissionInformation → Row → Outcome (Unit {0})
head_screen o r = before (info_screen o) (before (row_screen r (ceil o.transfer_length o.symbol_size) o.symbol_size) (given tt))

screen-whole : (d : List ℕ) → 4128 ≤ length d → screen d ≡ head_screen (info_of d) (row_in d)
unfolding screen
screen-whole d h = rw (le-ltb (length d) 32 (omega arith), le-ltb (length d) 4128 h) refl

module _ (b p : List ℕ) where
  number-on : (at n : ℕ) → at + n ≤ length b → number (b ++ p) at n ≡ number b at n
  number-on at zero h = refl
  number-on at (suc n) h = ap₂ (λ (x y : ℕ). x * 256 + y) (number-on at n (omega arith)) (get_or-append b p 0 (at + n) (omega arith))

  packet-on : (t i : ℕ) → packet_at t i + (t + 4) ≤ length b → packet_of (b ++ p) t i ≡ packet_of b t i
  packet-on t i h =
      let at = packet_at t i in
      let l = part_length b at (t + 4) h in
      ext_get_or 0 (packet_of (b ++ p) t i) (packet_of b t i) (part_length (b ++ p) at (t + 4) (omega (arith, length-append b p)) ∙ sym l)
      (λ k g.
      let m = part_length (b ++ p) at (t + 4) (omega (arith, length-append b p)) in
      part_at (b ++ p) at (t + 4) k (omega arith) ∙ get_or-append b p 0 (at + k) (omega arith) ∙ sym (part_at b at (t + 4) k (omega arith)))

  esis-on : (t n : ℕ) → packet_at t n ≤ length b → esis_in (b ++ p) t n ≡ esis_in b t n
  unfolding esis_in
  esis-on t zero h = refl
  esis-on t (suc n) h =
      let q = packet-ends t n (suc n) (omega arith) in
      ap₂ (λ (x es : List ℕ). pick (is_own x) (es ++ (esi_of x ∷ [])) es) (packet-on t n (omega arith)) (esis-on t n (omega arith))

  symbols-on : (t n : ℕ) → packet_at t n ≤ length b → symbols_in (b ++ p) t n ≡ symbols_in b t n
  unfolding symbols_in
  symbols-on t zero h = refl
  symbols-on t (suc n) h =
      let q = packet-ends t n (suc n) (omega arith) in
      ap₂ (λ (x zs : List ℕ). pick (is_own x) (zs ++ symbol_of x) zs) (packet-on t n (omega arith)) (symbols-on t n (omega arith))

  module _ (whole : 4128 ≤ length b) where
    info-on : info_of (b ++ p) ≡ info_of b
    unfolding info_of
    info-on =
        five {A = ObjectTransmissionInformation}
        (λ (f t z n al : ℕ). record {
          transfer_length = f;
          symbol_size = t;
          num_source_blocks = z;
          num_sub_blocks = n;
          symbol_alignment = al;
        })
        (number-on 0 5 (omega arith)) (number-on 6 2 (omega arith)) (number-on 8 1 (omega arith)) (number-on 9 2 (omega arith)) (number-on 11 1 (omega arith))

    row_on : row_in (b ++ p) ≡ row_in b
    unfolding row_in
    row_on =
        five row_of (number-on 12 4 (omega arith)) (number-on 16 4 (omega arith)) (number-on 20 4 (omega arith)) (number-on 24 4 (omega arith))
        (number-on 28 4 (omega arith))

    tables-on : tables_of (b ++ p) ≡ tables_of b
    unfolding tables_of
    tables-on =
        let l = length-tabulate 1024 (entry_at (b ++ p)) in
        ext_get_or 0 (tabulate 1024 (entry_at (b ++ p))) (tabulate 1024 (entry_at b)) (l ∙ sym (length-tabulate 1024 (entry_at b)))
        (λ k h. get_d_tabulate 1024 (entry_at (b ++ p)) k (omega arith) ∙ number-on (32 + 4 * k) 4 (omega arith)
        ∙ sym (get_d_tabulate 1024 (entry_at b) k (omega arith)))

    t-on : t_of (b ++ p) ≡ t_of b
    t-on = ap (λ (o : ObjectTransmissionInformation). o.symbol_size) info-on

    k-on : k_of (b ++ p) ≡ k_of b
    k-on = ap (λ (o : ObjectTransmissionInformation). ceil o.transfer_length o.symbol_size) info-on

    -- it is taken, or not, as before
    pub screen-on : screen (b ++ p) ≡ screen b
    screen-on = screen-whole (b ++ p) (omega (arith, length-append b p)) ∙ ap₂ head_screen info-on row_on ∙ sym (screen-whole b whole)

    module _ (full : left_of (length b) (t_of b) ≡ 0) (long : length p ≡ t_of b + 4) where
      ends : packet_at (t_of b) (n_of b) ≡ length b
      ends =
          let q : (length b - 4128) / (t_of b + 4) * (t_of b + 4) + (length b - 4128) % (t_of b + 4) ≡ length b - 4128 = div-add-mod' (length b - 4128) (t_of b
          + 4) in
          omega arith

      count-on : count_of (length (b ++ p)) (t_of b) ≡ n_of b + 1
      count-on =
          let e : length (b ++ p) - 4128 ≡ (n_of b + 1) * (t_of b + 4) + 0 =
          omega (arith, length-append b p, ends, add-mul (n_of b) 1 (t_of b + 4), one-mul (t_of b + 4))
          in
          let z : 0 < t_of b + 4 = omega arith in
          ap (λ (x : ℕ). x / (t_of b + 4)) e ∙ digits_div (n_of b + 1) z

      last-packet : packet_of (b ++ p) (t_of b) (n_of b) ≡ p
      last-packet =
          ap (λ (x : ℕ). take (t_of b + 4) (drop x (b ++ p))) ends ∙ ap (take (t_of b + 4)) (drop-append_seam b p) ∙ take_all (t_of b + 4) p (omega arith)

      before-it : stretch_at (b ++ p) (n_of b) ≡ stretch_of b
      before-it =
          let all : packet_at (t_of b) (n_of b) ≤ length b = omega (arith, ends) in
          let make : Row → List ℕ → ℕ → ℕ → List ℕ → List ℕ → Stretch = λ r v k t es zs. record {
            row = r;
            tables = v;
            k = k;
            t = t;
            esis = es;
            symbols =
                zs;
          } in
          let es = ap (λ (t : ℕ). esis_in (b ++ p) t (n_of b)) t-on ∙ esis-on (t_of b) (n_of b) all in
          let zs = ap (λ (t : ℕ). symbols_in (b ++ p) t (n_of b)) t-on ∙ symbols-on (t_of b) (n_of b) all in
          ap₂ (λ (r : Row) (v : List ℕ). make r v (k_of (b ++ p)) (t_of (b ++ p)) (esis_in (b ++ p) (t_of (b ++ p)) (n_of b)) (symbols_in (b ++ p) (t_of (b ++ p))
          (n_of b)))
          row_on tables-on
          ∙ ap₂ (λ (k t : ℕ). make (row_in b) (tables_of b) k t (esis_in (b ++ p) (t_of (b ++ p)) (n_of b)) (symbols_in (b ++ p) (t_of (b ++ p)) (n_of b))) k-on t-on
          ∙ ap₂ (make (row_in b) (tables_of b) (k_of b) (t_of b)) es zs

      -- heard by one packet more: what `hear` does to the stretch that is held
      pub stretch-on : stretch_of (b ++ p) ≡ hearing (stretch_of b) p
      stretch-on =
          let n : n_of (b ++ p) ≡ n_of b + 1 = ap (count_of (length (b ++ p))) t-on ∙ count-on in
          let q : packet_of (b ++ p) (t_of (b ++ p)) (n_of b) ≡ p = ap (λ (t : ℕ). packet_of (b ++ p) t (n_of b)) t-on ∙ last-packet in
          ap (stretch_at (b ++ p)) n ∙ sym (stretch-more (b ++ p) (n_of b)) ∙ ap₂ hearing before-it q
