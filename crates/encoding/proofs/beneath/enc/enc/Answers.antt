-- `encoding::beneath::enc::enc` meets its contract: the walk is laid into a list of 32, and its symbols are added up in a cleared run.
-- Assumes nothing.
use Rattle.std.proofs.Common.{rules, arith}
use Rattle.encoding.proofs.Sums.{addable, all-added}
use Rattle.encoding.proofs.beneath.enc.enc.Goals as goal

pub add_symbols-requires : goal.add_symbols-requires
add_symbols-requires c =
    let q = c.requires in
    addable _ _ _ _ q.0 q.1 _ _ c.enc_indices.ensures c.clear.ensures (omega (arith, q.1.d-low)) (search rules) q.3 q.4

pub returns : goal.returns
returns c =
    let q = c.requires in
    all-added _ _ _ _ q.0 q.1 _ _ c.enc_indices.ensures c.clear.ensures (λ i. omega (arith, c.type_inv.intermediates i)) c.add_symbols.ensures
