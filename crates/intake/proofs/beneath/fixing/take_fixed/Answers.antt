use Rattle.std.proofs.Common.{◌≡◌, ◌<◌, refl, arith}
use Rattle.solver.specs.System.{fixed}
use Rattle.intake.specs.Taking.{first_fixed, fixed_row, in_turn, single}
use Rattle.intake.proofs.Fixed.{turn_below, turn_more}
use Rattle.intake.proofs.Steps.{adds-alike, adds_none, adds-takable, adds_then}
use Rattle.intake.proofs.beneath.fixing.take_fixed.Goals as goal

pub loop-i-init : goal.loop-i-init
loop-i-init c =
    let a = c.args in
    (c.requires.2, adds_none (first_fixed a.tables.now a.r a.k 0) _ _ _ a.from refl c.requires.1.placed)

pub take_row-p-requires : goal.take_row-p-requires
take_row-p-requires c =
    let a = c.args in
    let h : c.loop-i.i < fixed a.r a.k = omega (arith, c.loop-i-test.true, c.fixed-n.ensures) in
    (c.requires.0, rw c.in_turn-j.ensures (turn_below a.r a.k _ h), adds-takable _ _ _ _ _ _ c.requires.1 c.loop-i.invariant.1, c.loop-i.invariant.0)

pub loop-i-preserved : goal.loop-i-preserved
loop-i-preserved c =
    let a = c.args in
    let i = c.loop-i.i in
    let v = a.tables.now in
    let q = c.take_row-p.result in
    let one = single (fixed_row v a.r a.k (in_turn a.r a.k i)) (λ _. 0) in
    let added = adds_then (first_fixed v a.r a.k i) one _ _ _ _ _ _ _ _ _ a.from c.loop-i.p q c.loop-i.invariant.1
    (rw c.in_turn-j.ensures at c.take_row-p.ensures.adds) in
    (c.take_row-p.ensures.wide, adds-alike _ _ _ _ _ _ _ _ a.from q (turn_more _ _ v a.r a.k i) added)

pub returns : goal.returns
returns c =
    let e : c.loop-i.i ≡ fixed c.args.r c.args.k = omega (arith, c.fixed-n.ensures) in
    rw e at c.loop-i.invariant.1
