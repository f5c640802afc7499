-- `field::beneath::runs::multiple` meets its contract: c times 0 is 0, and c times 1 is c.
-- Assumes nothing.
use mathlib.Core.Path.{◌≡◌, sym}
use native.Mathlib.Omega.{arith}
use Rattle.field.proofs.Laws.{times_zero, times-one}
use Rattle.field.proofs.beneath.runs.multiple.Goals as goal

pub returns-then-x-eq0 : goal.returns-then-x-eq0
returns-then-x-eq0 c = rw (c.if-x-eq0.true) (sym (times_zero c.args.c))

pub returns-else-x-eq0 : goal.returns-else-x-eq0
returns-else-x-eq0 c =
    let one : c.args.x ≡ 1 = omega arith in
    rw one (sym (times-one c.args.c c.ranges.c.fits))
