-- `solver::beneath::call::run` meets its contract: the filled stores hold the system of the call.
-- Assumes nothing.
use Rattle.std.proofs.Common.{arith}
use Rattle.solver.specs.System.{hdpc_rows, system_of}
use Rattle.solver.proofs.Groups.{octets-blank, octet-symbols}
use Rattle.solver.proofs.Holding.{holds}
use Rattle.solver.proofs.beneath.call.run.Goals as goal

pub returns-clause-means : goal.returns-clause-means
returns-clause-means c =
    let a = c.args in
    let p = c.requires.fillable in
    let filled = c.fill.ensures in
    let e = rw (c.m-m.ensures, p.sendable.rules.derived.l-fits) at c.solve_stored.ensures in
    let v = a.tables.now in
    let es = a.esis.now in
    let xs = a.symbols.now in
    let octets = octet-symbols (hdpc_rows v a.r) a.r v a.k a.t es xs (octets-blank a.t _ _) (λ x. omega (arith, c.type_inv.symbols x)) in
    e.answer (system_of a.r v a.k a.t es xs) octets (holds a.r v a.k a.t es xs p.sendable filled.rows_filled filled.symbols_filled p.all)
