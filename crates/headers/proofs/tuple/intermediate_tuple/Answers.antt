-- `headers::tuple::intermediate_tuple` meets its contract: a row that is taken obeys its rules.
-- Assumes nothing.
use Rattle.std.proofs.Common.{ℕ, sym, ap, ◌∙◌, eq-eqb}
use Rattle.field.specs.Answer.{given}
use Rattle.headers.specs.Tuples.{tuple_of}
use Rattle.headers.proofs.Rules.{obeyed, obeying}
use Rattle.headers.proofs.Accepted.{own-ready}
use Rattle.headers.proofs.tuple.intermediate_tuple.Goals as goal

pub intermediate_tuple-requires : goal.intermediate_tuple-requires
intermediate_tuple-requires c = own-ready (obeying (sym c.in_ok-verify.ensures)) c.if-tables-ne1024.false

pub returns : goal.returns
returns c =
    let o = obeying (sym c.in_ok-verify.ensures) in
    let a = c.args in
    simp (obeyed o, eq-eqb _ _ c.if-tables-ne1024.false)
    (ap given (c.intermediate_tuple.ensures ∙ ap (λ (n : ℕ). tuple_of a.tables.now a.r.j a.r.w n a.x.0) o.derived.p1-fits))
