-- Which rows are among which, whatever the symbols: what the ESIs of two calls of `solve` with one row, tables and K say of their systems.
-- Assumes nothing.
use mathlib.Core.Path.{◌≡◌, refl, sym, ap, ◌∙◌, subst}
use mathlib.Core.List.{List, [], ◌∷◌, ◌++◌}
use Prim.Native.Nat.{ℕ, zero, suc, ◌+◌, ◌-◌, ◌<◌}
use native.Mathlib.Decide.{dec_lt}
use native.Mathlib.Omega.{arith}
use lib.ListN.{length, get_or, length-append, get_or-append}
use lib.Seq.{get_or-append-add}
use Rattle.headers.specs.Row.{l_of}
use Rattle.headers.specs.declared.row.Row.{Row}
use Rattle.linear.specs.System.{System, Included, joined}
use Rattle.linear.proofs.Joined.{included-self, included-then, included-first, included-second, included-both, included-parts}
use Rattle.solver.specs.System.{hdpc_rows, sent_row, arrival_rows, fixed_with, system_of}
use Rattle.solver.proofs.Groups.{has-fixed, has-arrivals}
use Rattle.promises.specs.Calls.{Among, SameRow, RowsAmong, SameRows}

-- what holds of every element of two lists holds of every one of their sum
every-both : (P : ℕ → Type 0) (es gs : List ℕ) → ((i : ℕ) → i < length es → P (get_or es i 0)) → ((j : ℕ) → j < length gs → P (get_or gs j 0))
    → (i : ℕ) → i < length (es ++ gs) → P (get_or (es ++ gs) i 0)
every-both P es gs f g i h = go (dec_lt i (length es))
  where
    go : Dec (i < length es) → P (get_or (es ++ gs) i 0)
    go (yes l) = subst P (sym (get_or-append es gs 0 i l)) (f i l)
    go (no l) =
        let j = i - length es in
        let e : i ≡ length es + j = omega arith in
        subst P (sym (ap (λ (x : ℕ). get_or (es ++ gs) x 0) e ∙ get_or-append-add es gs j 0)) (g j (omega (arith, length-append es gs)))

module _ {v : List ℕ} {r : Row} {k : ℕ} where
  -- where the ESIs are one, the rows are
  same-esi : {e f : ℕ} → e ≡ f → SameRow v r k e f
  same-esi q = record { coefs = λ c h. ap (λ (e : ℕ). sent_row v r k e c) q }

  same_then : {e f g : ℕ} → SameRow v r k e f → SameRow v r k f g → SameRow v r k e g
  same_then a b = record { coefs = λ c h. a.coefs c h ∙ b.coefs c h }

  pub rows_self : (es : List ℕ) → RowsAmong v r k es es
  rows_self es = record { each = λ i h. (i, h, same-esi refl) }

  pub rows_then : {es fs hs : List ℕ} → RowsAmong v r k es fs → RowsAmong v r k fs hs → RowsAmong v r k es hs
  rows_then f g = record { each = λ i h. let a = f.each i h in let b = g.each a.0 a.1 in (b.0, b.1, same_then a.2 b.2) }

  -- those of arrivals that are among others
  pub among-rows : {t : ℕ} {es xs fs ys : List ℕ} → Among t es xs fs ys → RowsAmong v r k es fs
  among-rows m = record { each = λ i h. let a = m.each i h in (a.place, a.below, same-esi a.esi) }

  -- ---- es, and gs behind them

  module _ (es gs : List ℕ) where
    pub rows-first : RowsAmong v r k es (es ++ gs)
    rows-first = record { each = λ i h. (i, omega (arith, length-append es gs), same-esi (sym (get_or-append es gs 0 i h))) }

    pub rows-second : RowsAmong v r k gs (es ++ gs)
    rows-second = record { each = λ j h. (length es + j, omega (arith, length-append es gs), same-esi (sym (get_or-append-add es gs j 0))) }

    rows_both : {hs : List ℕ} → RowsAmong v r k es hs → RowsAmong v r k gs hs → RowsAmong v r k (es ++ gs) hs
    rows_both {hs} f g = record { each = every-both (λ e. (j : ℕ) × (j < length hs) × SameRow v r k e (get_or hs j 0)) es gs f.each g.each }

  -- ---- rows that are the same

  pub same-rows-self : (es : List ℕ) → SameRows v r k es es
  same-rows-self es = record { to = rows_self es; back = rows_self es }

  rows-one : {e f : ℕ} → SameRow v r k e f → RowsAmong v r k (e ∷ []) (f ∷ [])
  rows-one {e} {f} q = record { each = go }
    where
      go : (i : ℕ) → i < 1 → (j : ℕ) × (j < 1) × SameRow v r k (get_or (e ∷ []) i 0) (get_or (f ∷ []) j 0)
      go zero h = (0, omega arith, q)
      go (suc i) h = absurd (omega arith)

  pub same-rows-one : {e f : ℕ} → SameRow v r k e f → SameRows v r k (e ∷ []) (f ∷ [])
  same-rows-one q = record { to = rows-one q; back = rows-one (record { coefs = λ c h. sym (q.coefs c h) }) }

  -- and so are they behind others
  rows_behind : (es : List ℕ) {gs hs : List ℕ} → RowsAmong v r k gs hs → RowsAmong v r k (es ++ gs) (es ++ hs)
  rows_behind es {gs} {hs} f = rows_both es gs (rows-first es hs) (rows_then f (rows-second es hs))

  pub same-rows-behind : (es : List ℕ) {gs hs : List ℕ} → SameRows v r k gs hs → SameRows v r k (es ++ gs) (es ++ hs)
  same-rows-behind es s = record { to = rows_behind es s.to; back = rows_behind es s.back }

  -- ---- the systems, in their rows (so T is 0)

  module _ (t : ℕ) where
    arrivals-included : {es fs : List ℕ} (xs ys : List ℕ) → RowsAmong v r k es fs
        → Included (l_of r) 0 (arrival_rows v r k t es xs) (arrival_rows v r k t fs ys)
    arrivals-included xs ys m i h = let a = m.each i h in (a.0, a.1, record { coefs = a.2.coefs; bytes = λ b l. absurd (omega arith) })

    pub rows-included : {es fs : List ℕ} (xs ys : List ℕ) → RowsAmong v r k es fs → Included (l_of r) 0 (system_of r v k t es xs) (system_of r v k t fs ys)
    rows-included {es} {fs} xs ys m =
        let Z = fixed_with (hdpc_rows v r) v r k in
        included-parts (l_of r) 0 Z (arrival_rows v r k t es xs) Z (arrival_rows v r k t fs ys) (included-self Z) (arrivals-included xs ys m)

-- the system of es, with gs behind them, is that of es and the rows of gs
module _ (v : List ℕ) (r : Row) (k t : ℕ) (es xs gs us ys : List ℕ) where
  abbrev S : System ℕ
  S = system_of r v k t es xs

  abbrev N : System ℕ
  N = arrival_rows v r k t gs us

  -- the row of the ESI e is one of theirs
  abbrev Theirs : ℕ → Type 0
  Theirs e = (i : ℕ) × (i < (joined S N).count) × ((c : ℕ) → c < l_of r → sent_row v r k e c ≡ (joined S N).coef i c)

  first : (i : ℕ) → i < length es → Theirs (get_or es i 0)
  first i h =
      let o = included-then (has-arrivals (hdpc_rows v r) r v k t es xs (l_of r) 0) (included-first (l_of r) 0 S N) i h in
      (o.0, o.1, o.2.coefs)

  second : (j : ℕ) → j < length gs → Theirs (get_or gs j 0)
  second j h = let o = included-second (l_of r) 0 S N j h in (o.0, o.1, o.2.coefs)

  pub rows-parted : Included (l_of r) 0 (system_of r v k t (es ++ gs) ys) (joined S N)
  rows-parted =
      let Z = fixed_with (hdpc_rows v r) v r k in
      included-both (l_of r) 0 Z (arrival_rows v r k t (es ++ gs) ys)
      (included-then (has-fixed (hdpc_rows v r) r v k t es xs (l_of r) 0) (included-first (l_of r) 0 S N))
      (λ i h. let o = every-both Theirs es gs first second i h in (o.0, o.1, record { coefs = o.2; bytes = λ b l. absurd (omega arith) }))

  pub rows-joined : Included (l_of r) 0 (joined S N) (system_of r v k t (es ++ gs) ys)
  rows-joined =
      included-both (l_of r) 0 S N (rows-included {r = r} t xs ys (rows-first es gs))
      (included-then (arrivals-included {r = r} t us ys (rows-second es gs)) (has-arrivals (hdpc_rows v r) r v k t (es ++ gs) ys (l_of r) 0))
