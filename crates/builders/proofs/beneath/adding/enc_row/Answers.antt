-- `builders::beneath::adding::enc_row` meets its contract: the walk of the ISI's tuple is added place by place.
-- Assumes nothing.
use mathlib.Core.Path.{◌≡◌, sym, ap, ◌∙◌, subst}
use mathlib.Core.List.{List}
use Prim.Native.Nat.{ℕ}
use native.Mathlib.Omega.{arith}
use borrow.Author.Rules.{rules}
use Rattle.headers.specs.Tuples.{Bounds, Ready, tuple_of}
use Rattle.headers.specs.declared.tuple.Tuple.{Tuple}
use Rattle.headers.proofs.Tuples.{bounded}
use Rattle.constraints.specs.Encoding.{enc, visits}
use Rattle.constraints.specs.Walk.{places}
use Rattle.builders.specs.Adding.{only}
use Rattle.builders.proofs.Adding.{added-as}
use Rattle.builders.proofs.Walking.{place-lt, walk-sum}
use Rattle.builders.proofs.beneath.adding.enc_row.Goals as goal

bounds : {v : List ℕ} {j w p1 : ℕ} (x : ℕ) {t : Tuple} → Ready v j w p1 → t ≡ tuple_of v j w p1 x → Bounds w p1 t
bounds {w = w} {p1 = p1} x h e = subst (Bounds w p1) (sym e) (bounded h x)

pub enc_indices-requires : goal.enc_indices-requires
enc_indices-requires c =
    let b = bounds c.args.x.0 c.requires.3 c.intermediate_tuple-t.ensures in
    (c.requires.2, b, omega arith)

pub overflow_add-n : goal.overflow_add-n
overflow_add-n c = let b = bounds c.args.x.0 c.requires.3 c.intermediate_tuple-t.ensures in omega arith

pub add_places-requires : goal.add_places-requires
add_places-requires c =
    let a = c.args in
    let b = bounds a.x.0 c.requires.3 c.intermediate_tuple-t.ensures in (
      c.requires.0,
      c.requires.1,
      search rules,
      λ k h. let q = place-lt a.w a.p a.p1 c.intermediate_tuple-t.result c.requires.2 b c.enc_indices.ensures k h in omega arith,
    )

pub returns : goal.returns
unfolding enc
returns c =
    let a = c.args in
    let b = bounds a.x.0 c.requires.3 c.intermediate_tuple-t.ensures in
    added-as c.add_places.ensures
    (λ r q.
    walk-sum a.w a.p a.p1 c.intermediate_tuple-t.result c.requires.2 b c.enc_indices.ensures a.i r q
    ∙ ap (λ (t : Tuple). only a.i (visits (places a.w a.p a.p1 t)) r q) c.intermediate_tuple-t.ensures)
