-- `reply::beneath::names::beside` meets its contract: four parts, one behind the other.
-- Assumes nothing.
use Rattle.reply.specs.Ascii.{ascii}
use Rattle.reply.proofs.Lines.{lined-number}
use Rattle.reply.proofs.Names.{beside-laid}
use Rattle.reply.proofs.beneath.names.beside.Goals as goal

pub returns : goal.returns
returns c =
    let number = lined-number (ascii ".receive-") c.numbered.ensures c.from.ensures in
    record {
      from = c.last_part-k.result;
      last = c.last_part-k.ensures;
      line = beside-laid c.args.path.now c.last_part-k.result c.args.i c.last_part-k.ensures.inside c.requires
          c.copy.ensures c.copy-2.ensures c.copy-3.ensures number;
    }
