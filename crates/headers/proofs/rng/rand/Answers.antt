-- `headers::rng::rand` meets its contract.
-- Assumes nothing.
use Rattle.std.proofs.Common.{ap, eq-eqb, ne_eqb}
use Rattle.field.specs.Answer.{given}
use Rattle.headers.proofs.rng.rand.Goals as goal

pub returns-then-tables-ne1024 : goal.returns-then-tables-ne1024
returns-then-tables-ne1024 c = simp (ne_eqb _ _ c.if-tables-ne1024.true)

pub returns-then-m-eq0 : goal.returns-then-m-eq0
returns-then-m-eq0 c = simp (eq-eqb _ _ c.if-tables-ne1024.false, eq-eqb _ _ c.if-m-eq0.true)

pub returns : goal.returns
returns c = simp (eq-eqb _ _ c.if-tables-ne1024.false, ne_eqb _ _ c.if-m-eq0.false) (ap given c.rand.ensures.0)
