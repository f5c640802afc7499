-- The contracts of the public calls settle the answer, and every place of the memory that was lent.
-- Assumes nothing.
use Rattle.std.proofs.Common.{◌≡◌, List, ℕ, ◌*◌, length, get_or}
use Rattle.std.specs.Prelude.{Result}
use Rattle.field.proofs.Refusals.{settled-written}
use Rattle.field.specs.declared.refusal.Refusal.{Refusal}
use Rattle.headers.specs.Row.{l_of}
use Rattle.headers.specs.declared.row.Row.{Row}
use Rattle.headers.specs.declared.tuple.Tuple.{Tuple}
use Rattle.constraints.specs.Grid.{cells}
use Rattle.constraints.specs.Hdpc.{hdpc_of}
use Rattle.constraints.specs.Answers.{places_of, indices, hdpc_room, Walked, HdpcRows}

-- enc_indices
pub walked-only : {r : Row} {t : Tuple} {xs ys zs : List ℕ} {p q : Result ℕ Refusal} → Walked r t xs ys p → Walked r t xs zs q → (p ≡ q) × (ys ≡ zs)
walked-only {r} {t} {xs} {ys} {zs} {p} {q} u v =
    let ps = places_of r t in
    settled-written (indices r t (length xs)) xs (λ k. get_or ps k 0) 0 (length ps) p q ys zs (u.answer, u.memory) (v.answer, v.memory)

-- generate_hdpc_rows
pub rows-only : {v : List ℕ} {r : Row} {xs ys zs : List ℕ} {p q : Result (Unit {0}) Refusal} → HdpcRows v r xs ys p → HdpcRows v r xs zs q → (p ≡ q) × (ys ≡ zs)
rows-only {v} {r} {xs} {ys} {zs} {p} {q} s t =
    settled-written (hdpc_room r (length v) (length xs)) xs (cells (l_of r) (hdpc_of v r)) 0 (r.h * l_of r) p q ys zs
    (s.answer, s.memory) (t.answer, t.memory)
