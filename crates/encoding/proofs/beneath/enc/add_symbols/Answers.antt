use Rattle.std.proofs.Common.{◌<◌, get_or, arith}
use Rattle.std.proofs.lemmas.List.{get_or-take, length-take-le}
use Rattle.encoding.proofs.Sums.{none-added, one-added}
use Rattle.encoding.proofs.beneath.enc.add_symbols.Goals as goal

pub loop-p-init : goal.loop-p-init
loop-p-init c = none-added _ _ _ _

pub loop-p-preserved : goal.loop-p-preserved
loop-p-preserved c =
    let list = c.args.list.now in
    let i = c.loop-p.p-index in
    let h : i < c.args.n = omega (arith, length-take-le c.args.n list c.requires.read) in
    one-added _ _ _ _ _ _ i c.loop-p.invariant (rw (get_or-take c.args.n list i 0 h) at c.add_symbol.ensures)
