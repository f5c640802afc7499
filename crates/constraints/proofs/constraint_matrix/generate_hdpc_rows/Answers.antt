-- `constraints::constraint_matrix::generate_hdpc_rows` meets its contract: a row that is taken obeys its rules, and L - H is K' + S.
-- Assumes nothing.
use Rattle.std.proofs.Common.{◌≡◌, ◌+◌, ◌-◌, refl, sym, arith, lt-ltb, le-ltb, eq-eqb}
use Rattle.headers.specs.Row.{l_of}
use Rattle.headers.proofs.Rules.{obeyed, obeying}
use Rattle.constraints.proofs.constraint_matrix.generate_hdpc_rows.Goals as goal

pub returns-then-out-h : goal.returns-then-out-h
returns-then-out-h c =
    let o = obeying (sym c.in_ok-verify.ensures) in
    let short = rw o.derived.l-fits at c.if-out-h.true in
    record { answer = simp (obeyed o, eq-eqb _ _ c.if-tables-ne1024.false, lt-ltb _ _ short); memory = refl }

pub generate_hdpc_rows-requires : goal.generate_hdpc_rows-requires
generate_hdpc_rows-requires c =
    let o = obeying (sym c.in_ok-verify.ensures) in
    let e = o.derived.l-fits in
    (c.if-tables-ne1024.false, omega (arith, o.ranges.kp-low), o.ranges.h-low, omega (arith, o.l-high), omega arith)

pub returns : goal.returns
returns c =
    let o = obeying (sym c.in_ok-verify.ensures) in
    let r = c.args.r in
    let e = o.derived.l-fits in
    let n : l_of r - r.h ≡ r.kp + r.s = omega arith in
    record {
      answer = simp (obeyed o, eq-eqb _ _ c.if-tables-ne1024.false, le-ltb _ _ (rw e at c.if-out-h.false));
      memory = rw (e, n) at c.generate_hdpc_rows.ensures;
    }
