-- `builders::constraint_matrix::fill` meets its contract: cleared words, the LDPC rows, then the rows of the ISIs.
-- Assumes nothing.
use mathlib.Core.Path.{◌∙◌}
use native.Mathlib.Omega.{arith}
use Rattle.headers.specs.Row.{Obeys}
use Rattle.headers.proofs.Accepted.{l-is, ready}
use Rattle.constraints.proofs.Accepted.{walks}
use Rattle.builders.proofs.Adding.{lies-on}
use Rattle.builders.proofs.Systems.{built}
use Rattle.builders.proofs.constraint_matrix.fill.Goals as goal

pub enc_rows-requires : goal.enc_rows-requires
enc_rows-requires c =
    let o : Obeys c.args.r = c.requires.0 in
    let d = o.derived in
    let size = c.ldpc_rows.ensures.size ∙ c.clear.ensures.size in
    rw (d.l-fits, d.p-fits, d.p1-fits) (lies-on c.requires.4 size, omega arith, walks o, ready o c.requires.1, omega (arith, l-is o))

pub returns : goal.returns
returns c =
    let a = c.args in
    let d = c.requires.0.derived in
    built a.tables.now a.isis.now a.r a.zeros (omega (arith, c.requires.0.ranges.s-low))
    (rw (c.row_word_width.ensures, d.l-fits) at c.clear.ensures)
    (rw (d.l-fits, d.p-fits) at c.ldpc_rows.ensures)
    (rw (d.l-fits, d.p-fits, d.p1-fits) at c.enc_rows.ensures)
    (λ k. omega (arith, c.type_inv.ws k))
