-- `delivery::beneath::receiver::hear` meets its contract.
-- Assumes nothing.
use native.Mathlib.Omega.{arith}
use Rattle.delivery.proofs.Settling.{other-heard, own-heard}
use Rattle.delivery.proofs.beneath.receiver.hear.Goals as goal

pub returns-then-id-ne0-clause-value : goal.returns-then-id-ne0-clause-value
returns-then-id-ne0-clause-value c = (other-heard c.args.bytes.now c.args.memory.now c.get-id.result c.get-id.ensures c.if-id-ne0.true).0

pub returns-then-id-ne0-clause-hears_more : goal.returns-then-id-ne0-clause-hears_more
returns-then-id-ne0-clause-hears_more c = (other-heard c.args.bytes.now c.args.memory.now c.get-id.result c.get-id.ensures c.if-id-ne0.true).1

pub returns-clause-value : goal.returns-clause-value
returns-clause-value c =
    (own-heard c.args.bytes.now c.args.memory.now c.get-id.result c.get-id.ensures
    c.if-id-ne0.false (λ x. omega (arith, c.type_inv.bytes x)) c.requires c.packet.ensures).0

pub returns-clause-hears_more : goal.returns-clause-hears_more
returns-clause-hears_more c =
    (own-heard c.args.bytes.now c.args.memory.now c.get-id.result c.get-id.ensures
    c.if-id-ne0.false (λ x. omega (arith, c.type_inv.bytes x)) c.requires c.packet.ensures).1
