-- `slabs::beneath::symbols::scale` meets its contract: what the part tells is told of the symbol.
-- Assumes nothing.
use Rattle.field.specs.Octet.{times}
use Rattle.slabs.proofs.Symbols.{whole-told}
use Rattle.slabs.proofs.beneath.symbols.scale.Goals as goal

pub returns-clause-value : goal.returns-clause-value
returns-clause-value c = whole-told (times c.args.c) _ c.args.to c.args.t c.requires c.scale.ensures.written c.scale.ensures.value
