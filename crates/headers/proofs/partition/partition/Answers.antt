-- `headers::partition::partition` meets its contract.
-- Assumes nothing.
use Rattle.std.proofs.Common.{ℕ, ◌-◌, ◌*◌, ◌/◌, ◌<◌, [], ◌∷◌, ap, mod-lt, div-add-mod', div-mul-le_self, arith, ne_eqb}
use Rattle.field.specs.Answer.{given}
use Rattle.headers.proofs.Quotient.{ceil-le}
use Rattle.headers.proofs.partition.partition.Goals as goal

pub returns-then-j-eq0 : goal.returns-then-j-eq0
returns-then-j-eq0 c = rw c.if-j-eq0.true

pub overflow_cast-il : goal.overflow_cast-il
overflow_cast-il c = omega (arith, ceil-le c.args.i c.args.j (omega arith))

pub overflow_mul-jl : goal.overflow_mul-jl
overflow_mul-jl c = omega (arith, div-mul-le_self c.args.i c.args.j)

pub overflow_sub-jl : goal.overflow_sub-jl
overflow_sub-jl c = omega (arith, div-mul-le_self c.args.i c.args.j)

pub overflow_sub-js : goal.overflow_sub-js
overflow_sub-js c =
    let start = c.args in
    let l : 0 < start.j = omega arith in
    omega (arith, div-add-mod' start.i start.j, mod-lt start.i l)

pub returns : goal.returns
returns c =
    let start = c.args in
    rw (ne_eqb start.j 0 c.if-j-eq0.false)
    (ap (λ (n : ℕ). given (n ∷ start.i / start.j ∷ (start.i - start.i / start.j * start.j) ∷ (start.j - (start.i - start.i / start.j * start.j)) ∷ []))
    c.int_div_ceil-il.ensures)
