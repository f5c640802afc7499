-- `intake::beneath::keeping::framed` meets its contract: the equation of the packet is taken, and the words say so.
-- Assumes nothing.
use Rattle.std.proofs.Common.{ℕ, ◌∙◌, sym, subst, get_or, arith}
use Rattle.field.specs.Runs.{Written}
use Rattle.linear.specs.Bytes.{Bytes}
use Rattle.intake.specs.State.{mark_in, noted}
use Rattle.intake.proofs.Packets.{front-long, tables-long, packet-adds}
use Rattle.intake.proofs.Stretches.{packet-holds}
use Rattle.intake.proofs.beneath.keeping.framed.Goals as goal

pub lay_packet-laid-requires : goal.lay_packet-laid-requires
lay_packet-laid-requires g c =
    let k = c.requires.packet in
    let n = k.begun.numbers in
    let f = c.requires.frame in
    rw (c.row_in-r.ensures, c.tables_in.ensures, c.k_in.ensures) (
      n.rules,
      tables-long c.args.state.now n.size,
      n.counts.k-low,
      n.counts.k-high,
      k.esi,
      record { row = front-long _ c.args.l f.2 ∙ f.0; symbol = front-long _ c.args.t f.3 ∙ f.1 ∙ sym k.size },
    )

pub returns-clause-holds_more : goal.returns-clause-holds_more
returns-clause-holds_more g c =
    let k = c.requires.packet in
    let f = c.requires.frame in
    let laid = c.lay_packet-laid in
    let t = c.take_next-q in
    let row = rw (c.tables_in.ensures, c.k_in.ensures) at laid.ensures.row_laid in
    let adds = packet-adds k c.args.l c.args.t f.0 f.1 c.progress_in-p.ensures laid.new.row laid.new.buffer t.new.pivots t.new.rows t.new.values t.result
    c.row_in-r.ensures row laid.ensures.symbol_laid t.ensures in
    let bytes : Bytes c.args.symbol.now = λ i. omega (arith, c.type_inv.symbol i) in
    let st = c.args.state.now in
    let words : Written (λ i. get_or (noted t.result (mark_in st)) i 0) st c.note.new.state 11 2 =
    subst (λ (m : ℕ). Written (λ i. get_or (noted t.result m) i 0) st c.note.new.state 11 2) c.mark_in-mark.ensures c.note.ensures in
    packet-holds _ _ _ _ _ _ _ _ _ _ t.result k bytes words adds
