-- `delivery::beneath::screen::screen_rest` meets its contract.
-- Assumes nothing.
use Rattle.delivery.proofs.Screening.{row_read}
use Rattle.delivery.proofs.beneath.screen.screen_rest.Goals as goal

pub screen_row-requires : goal.screen_row-requires
screen_row-requires c = (row_read c.args.bytes.now c.row.result c.row.ensures _ c.in_ok-r.was).0
