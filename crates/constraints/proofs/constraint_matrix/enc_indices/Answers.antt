-- `constraints::constraint_matrix::enc_indices` meets its contract: a row that is taken obeys its rules.
-- Assumes nothing.
use Rattle.std.proofs.Common.{refl, sym, lt-ltb, le-ltb}
use Rattle.headers.proofs.Rules.{obeyed, obeying}
use Rattle.constraints.proofs.Accepted.{own-walks, inside-bounds, outside-bounds}
use Rattle.constraints.proofs.constraint_matrix.enc_indices.Goals as goal

pub bounded-requires : goal.bounded-requires
bounded-requires c = (obeying (sym c.in_ok-verify.ensures)).ranges.w-16

pub returns-then-not-bounded : goal.returns-then-not-bounded
returns-then-not-bounded c =
    let o = obeying (sym c.in_ok-verify.ensures) in
    let outside = rw o.derived.p1-fits at c.if-not-bounded.ensures in
    record { answer = simp (obeyed o, outside-bounds outside); memory = refl }

pub returns-then-list-n : goal.returns-then-list-n
returns-then-list-n c =
    let o = obeying (sym c.in_ok-verify.ensures) in
    let bounds = rw o.derived.p1-fits at c.if-not-bounded.ensures in
    record { answer = simp (obeyed o, inside-bounds bounds, lt-ltb _ _ c.if-list-n.true); memory = refl }

pub enc_indices-requires : goal.enc_indices-requires
enc_indices-requires c = (own-walks (obeying (sym c.in_ok-verify.ensures)), c.if-not-bounded.ensures, c.if-list-n.false)

pub returns : goal.returns
returns c =
    let o = obeying (sym c.in_ok-verify.ensures) in
    let bounds = rw o.derived.p1-fits at c.if-not-bounded.ensures in
    record {
      answer = simp (obeyed o, inside-bounds bounds, le-ltb _ _ c.if-list-n.false);
      memory = rw (o.derived.p-fits, o.derived.p1-fits) at c.enc_indices.ensures;
    }
