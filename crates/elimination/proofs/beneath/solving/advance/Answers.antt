-- `elimination::beneath::solving::advance` meets its contract: what `take` says of the equation in the buffers is said of equation i.
-- Assumes nothing.
use mathlib.Core.Path.{◌∙◌}
use native.Mathlib.Omega.{arith}
use Rattle.linear.proofs.Elimination.{rank-at-most}
use Rattle.elimination.proofs.Solving.{lent-held, place-next, gone, became-only}
use Rattle.elimination.proofs.beneath.solving.advance.Goals as goal

pub take-requires-clause-lent : goal.take-requires-clause-lent
take-requires-clause-lent c =
    let (room, places, wide, l) = c.requires.stores_room in
    let laid = c.lay_symbol-laid.ensures in (
      lent-held _ (omega (arith, l)) room places c.requires.stepped,
      record { row = c.copy_row.ensures.size ∙ wide.row; symbol = laid.row_copied.size ∙ wide.symbol },
      laid.value,
    )

pub take-requires-clause-room : goal.take-requires-clause-room
take-requires-clause-room c =
    let (room, places, wide, l) = c.requires.stores_room in
    (rank-at-most c.requires.stepped, places.small, λ h. place-next l room places h)

pub held_now-requires : goal.held_now-requires
held_now-requires c = omega (arith, rank-at-most c.requires.stepped, c.requires.stores_room.1.small)

pub returns-clause-only_below : goal.returns-clause-only_below
returns-clause-only_below c =
    let a = c.args in
    became-only a.l a.t a.pivots.now a.rows.now a.values.now c.copy_row.new.store c.lay_symbol-laid.new.symbol
    c.take.new.pivots c.take.new.rows c.take.new.values c.requires.stores_room.3 c.take.result c.take.ensures

pub returns-clause-one_more : goal.returns-clause-one_more
returns-clause-one_more c =
    let (room, places, wide, l) = c.requires.stores_room in
    let lent = lent-held _ (omega (arith, l)) room places c.requires.stepped in
    λ a₀ d₀ u. rw c.held_now.ensures (gone _ _ u c.copy_row.ensures c.lay_symbol-laid.ensures.row_copied lent
    c.take.new.pivots c.take.new.rows c.take.new.values c.take.result c.take.ensures)
