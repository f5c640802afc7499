-- `encoding::encoder::check` meets its contract: a row that is taken obeys its rules, and its L is K' + S + H.
-- Assumes nothing.
use Rattle.std.proofs.Common.{sym, le-leb, lt-ltb, le-ltb, eq-eqb, ne_eqb}
use Rattle.std.proofs.lemmas.Bool.{lt-leb}
use Rattle.headers.proofs.Rules.{obeyed, obeying}
use Rattle.encoding.proofs.encoder.check.Goals as goal

pub returns-then-have-r : goal.returns-then-have-r
returns-then-have-r c =
    let o = obeying (sym c.in_ok-verify.ensures) in
    let short = rw o.derived.l-fits at c.if-have-r.true in
    simp (
      obeyed o,
      eq-eqb _ _ c.if-tables-ne1024.false,
      le-leb _ _ c.if-k-lt1.false,
      le-leb _ _ c.if-k-r.false,
      lt-leb _ _ c.if-esi-ge16777216.false,
      ne_eqb _ _ c.if-t-eq0.false,
      lt-ltb _ _ short,
    )

pub returns : goal.returns
returns c =
    let o = obeying (sym c.in_ok-verify.ensures) in
    let enough = rw o.derived.l-fits at c.if-have-r.false in
    simp (
      obeyed o,
      eq-eqb _ _ c.if-tables-ne1024.false,
      le-leb _ _ c.if-k-lt1.false,
      le-leb _ _ c.if-k-r.false,
      lt-leb _ _ c.if-esi-ge16777216.false,
      ne_eqb _ _ c.if-t-eq0.false,
      le-ltb _ _ enough,
      le-ltb _ _ c.if-room-t.false,
    )
