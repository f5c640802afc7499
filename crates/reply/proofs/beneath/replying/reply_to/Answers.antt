-- `reply::beneath::replying::reply_to` meets its contract.
-- Assumes nothing.
use mathlib.Core.Path.{subst}
use Rattle.reply.specs.Replies.{Said}
use Rattle.reply.specs.declared.beneath.rows.Typed.{Typed}
use Rattle.reply.proofs.beneath.replying.reply_to.Goals as goal

pub returns-clause-replied : goal.returns-clause-replied
returns-clause-replied c =
    let u = subst (λ (t : Typed). Said t c.receive-what.new.out c.say-reply.new.out c.say-reply.result c.receive-what.result) c.typed_in-t.ensures c.say-reply.ensures.said in
    record { what = c.receive-what.result; store = c.receive-what.new.out; comes = c.receive-what.ensures.comes; noted = c.note-notes.ensures; said = u }
