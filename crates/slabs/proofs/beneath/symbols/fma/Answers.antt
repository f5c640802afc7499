-- `slabs::beneath::symbols::fma` meets its contract: the symbol's part lies in one of the two parts of the slab, and the source in the other.
-- Assumes nothing.
use mathlib.Core.Path.{refl}
use native.Mathlib.Omega.{arith}
use Rattle.std.proofs.lemmas.Grind.{common_steps}
use Rattle.field.proofs.Parts.{written-part}
use Rattle.field.proofs.Writing.{written_as, written_is}
use Rattle.slabs.proofs.Symbols.{part-whole, told-whole, written-front, written-behind}
use Rattle.slabs.proofs.beneath.symbols.fma.Goals as goal

-- the part that is lent on is as long as the symbol
pub fuse-requires : goal.fuse-requires
fuse-requires c = grind (arith, common_steps)

pub fuse-requires-else-to-from : goal.fuse-requires-else-to-from
fuse-requires-else-to-from c = grind (arith, common_steps)

pub returns-then-to-from-clause-written : goal.returns-then-to-from-clause-written
returns-then-to-from-clause-written c =
    let own = part-whole _ c.args.to c.args.t c.fuse.ensures.written (grind (arith, common_steps)) (grind (arith, common_steps)) in
    written_as (written-front _ _ own c.split_at_mut-low.ensures.value (grind (arith, common_steps))) (λ k h. grind (arith, common_steps))

pub returns-then-to-from-clause-value : goal.returns-then-to-from-clause-value
returns-then-to-from-clause-value c =
    told-whole c.fuse.ensures.written (returns-then-to-from-clause-written c) (grind (arith, common_steps))
    (λ k h. grind (arith, common_steps)) c.fuse.ensures.value

pub returns-else-to-from-clause-written : goal.returns-else-to-from-clause-written
returns-else-to-from-clause-written c =
    written-behind _ _ _
    (written-part _ 0 c.args.t (written_is c.fuse-else-to-from.ensures.written (grind (arith, common_steps))) (grind (arith, common_steps)) (omega arith))
    refl c.split_at_mut-low-else-to-from.ensures.front_len c.split_at_mut-low-else-to-from.ensures.value (λ k h. grind (arith, common_steps))

pub returns-else-to-from-clause-value : goal.returns-else-to-from-clause-value
returns-else-to-from-clause-value c =
    told-whole c.fuse-else-to-from.ensures.written (returns-else-to-from-clause-written c) (grind (arith, common_steps))
    (λ k h. grind (arith, common_steps)) c.fuse-else-to-from.ensures.value
