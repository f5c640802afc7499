-- `delivery::beneath::receiver::start` meets its contract.
-- Assumes nothing.
use mathlib.Core.Path.{refl, ap, ◌∙◌}
use native.Mathlib.Omega.{arith}
use Rattle.headers.proofs.Rules.{refused-disobeys}
use Rattle.headers.specs.declared.transmission.ObjectTransmissionInformation.{ObjectTransmissionInformation}
use Rattle.delivery.proofs.Screening.{sound, row-broken, row_read}
use Rattle.delivery.proofs.Settling.{head-12, head-32, t_some, k-32, k-is, object-fits, tables-are, begin-holds, begin-not-refused}
use Rattle.delivery.proofs.beneath.receiver.start.Goals as goal

pub info-o-requires : goal.info-o-requires
info-o-requires c = head-12 c.args.bytes.now (sound c.args.bytes.now c.requires.passes)

pub row-requires : goal.row-requires
row-requires c = head-32 c.args.bytes.now (sound c.args.bytes.now c.requires.passes)

pub returns-in_err-r-clause-opens : goal.returns-in_err-r-clause-opens
returns-in_err-r-clause-opens c =
    let d = c.args.bytes.now in
    absurd (refused-disobeys (row-broken d c.row.result c.row.ensures _ c.in_err-r.was) (sound d c.requires.passes).row.rules)

pub int_div_ceil-k-requires : goal.int_div_ceil-k-requires
int_div_ceil-k-requires c =
    let d = c.args.bytes.now in
    t_some d (sound d c.requires.passes) (c.from.ensures ∙ ap (λ (o : ObjectTransmissionInformation). o.symbol_size) c.info-o.ensures)

pub overflow_cast-k : goal.overflow_cast-k
overflow_cast-k c =
    let d = c.args.bytes.now in
    let good = sound d c.requires.passes in
    record { fits = k-32 d good (k-is d good c.info-o.ensures c.from.ensures c.int_div_ceil-k.ensures) }

pub read_tables-requires : goal.read_tables-requires
read_tables-requires c = ((sound c.args.bytes.now c.requires.passes).whole, omega arith)

pub returns-in_err-begin-clause-opens : goal.returns-in_err-begin-clause-opens
returns-in_err-begin-clause-opens c =
    let d = c.args.bytes.now in
    let good = sound d c.requires.passes in
    let row = row_read d c.row.result c.row.ensures _ c.in_ok-r.was in
    let k = k-is d good c.info-o.ensures c.from.ensures c.int_div_ceil-k.ensures in
    let t = ap (λ (o : ObjectTransmissionInformation). o.symbol_size) c.info-o.ensures in
    let s = c.args in
    absurd (begin-not-refused d good c.read_tables.new.tables row.1 c.read_tables.auto.tables k t s.state.now s.pivots.now s.rows.now s.values.now
    c.requires.roomy _ c.in_err-begin.ensures)

pub returns-clause-opens : goal.returns-clause-opens
returns-clause-opens c =
    let d = c.args.bytes.now in
    let good = sound d c.requires.passes in
    let row = row_read d c.row.result c.row.ensures _ c.in_ok-r.was in
    let k = k-is d good c.info-o.ensures c.from.ensures c.int_div_ceil-k.ensures in
    let t = ap (λ (o : ObjectTransmissionInformation). o.symbol_size) c.info-o.ensures in
    let s = c.args in
    let v = c.read_tables.new.tables in (
      c.requires.passes,
      c.from-2.ensures ∙ t,
      ap (λ (o : ObjectTransmissionInformation). o.transfer_length) c.info-o.ensures,
      begin-holds d good v row.1 c.read_tables.auto.tables k t s.state.now s.pivots.now s.rows.now s.values.now c.requires.roomy
          (tables-are d c.read_tables.ensures refl) c.in_ok-begin.ensures,
    )

pub returns-clause-opened_small : goal.returns-clause-opened_small
returns-clause-opened_small c =
    let d = c.args.bytes.now in
    let good = sound d c.requires.passes in
    let t = ap (λ (o : ObjectTransmissionInformation). o.symbol_size) c.info-o.ensures in
    let f = ap (λ (o : ObjectTransmissionInformation). o.transfer_length) c.info-o.ensures in
    (omega (arith, t, good.row.t-high), omega (arith, f, object-fits d good))
