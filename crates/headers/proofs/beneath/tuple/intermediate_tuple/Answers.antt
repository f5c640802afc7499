-- `headers::beneath::tuple::intermediate_tuple` meets its contract.
-- Assumes nothing.
use Rattle.std.proofs.Common.{ap, ◌∙◌}
use Rattle.headers.specs.Tuples.{tuple_of}
use Rattle.headers.proofs.Tuples.{drawn}
use Rattle.headers.proofs.beneath.tuple.intermediate_tuple.Goals as goal

pub returns : goal.returns
returns c =
    let a = c.args in
    drawn a.tables.now a.j a.w a.p1 c.number-x.result c.seed-y.ensures c.rand.ensures.0 c.deg-d.ensures
    c.rand-a.ensures.0 c.rand-b.ensures.0 c.pi_degree-d1.ensures c.rand-a1.ensures.0 c.rand-b1.ensures.0
    ∙ ap (tuple_of a.tables.now a.j a.w a.p1) c.number-x.ensures
