-- `elimination::beneath::solving::forward_in` meets its contract: the front parts of the buffers are lent on.
-- Assumes nothing.
use Rattle.elimination.proofs.Solving.{taken_in, pivots-kept, reached}
use Rattle.elimination.proofs.beneath.solving.forward_in.Goals as goal

pub returns-clause-stores_room : goal.returns-clause-stores_room
returns-clause-stores_room c =
    let room = taken_in c.requires.0 c.forward.ensures.only_below in
    (room, reached _ _ c.forward.result room (pivots-kept c.requires.1 c.forward.auto.pivots) c.forward.ensures.gone)
