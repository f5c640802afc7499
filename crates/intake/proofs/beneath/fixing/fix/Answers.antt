-- `intake::beneath::fixing::fix` meets its contract: all of them are taken, and the words say so.
-- Assumes nothing.
use Rattle.std.proofs.Common.{refl, ap}
use Rattle.headers.specs.Row.{l_of}
use Rattle.intake.proofs.Fixed.{turns-all}
use Rattle.intake.proofs.Packets.{own-fixing, begun-takable}
use Rattle.intake.proofs.Steps.{adds-alike}
use Rattle.intake.proofs.Stretches.{completes}
use Rattle.intake.proofs.beneath.fixing.fix.Goals as goal

pub take_framed-q-requires : goal.take_framed-q-requires
take_framed-q-requires c =
    let b = c.requires.begun.0 in
    let r = c.row_in-r.ensures in
    rw (c.tables_in.ensures, c.k_in-k.ensures, c.t_in-t.ensures) (
      own-fixing b.numbers r,
      begun-takable _ _ _ b c.requires.stores_room (ap l_of r) refl c.progress_in-p.ensures,
      b.numbers.counts.t-high,
    )

pub returns : goal.returns
returns c =
    let a = c.args in
    let t = c.take_framed-q in
    let u = rw (c.row_in-r.ensures, c.progress_in-p.ensures, c.tables_in.ensures, c.k_in-k.ensures, c.t_in-t.ensures) at t.ensures in
    completes a.state.now a.pivots.now a.rows.now a.values.now c.note.new.state t.new.pivots t.new.rows t.new.values
    t.result c.requires.begun.0 c.requires.begun.1 c.requires.stores_room (adds-alike _ _ _ _ _ _ _ _ _ t.result (turns-all _ _ _ _ _) u) c.note.ensures
