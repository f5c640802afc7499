-- `builders::beneath::adding::ldpc_rows` meets its contract: the three sums of the procedure, one after the other.
-- Assumes nothing.
use mathlib.Core.Path.{refl}
use Rattle.constraints.specs.Ldpc.{ldpc}
use Rattle.builders.proofs.Adding.{added_then}
use Rattle.builders.proofs.beneath.adding.ldpc_rows.Goals as goal

pub returns : goal.returns
unfolding ldpc
returns c =
    let e = c.requires.2 in
    let one = c.crossings.ensures in
    let two = rw e at c.identity.ensures in
    added_then
    (added_then one two (λ r q. refl))
    c.endings.ensures (λ r q. refl)
