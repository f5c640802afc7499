-- `elimination::beneath::onto::inverse` meets its contract: 1 divided by the octet, and 0 for 0.
-- Assumes nothing.
use mathlib.Core.Path.{◌∙◌}
use Rattle.elimination.proofs.Rows.{unwrapped-inverse}
use Rattle.elimination.proofs.beneath.onto.inverse.Goals as goal

pub returns : goal.returns
returns c = c.unwrap_or.ensures ∙ unwrapped-inverse c.args.x c.div.result c.div.ensures
