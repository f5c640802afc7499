-- `builders::constraint_matrix::build` meets its contract.
-- Assumes nothing.
use mathlib.Core.Path.{refl}
use borrow.Author.Tests.{lt-ltb, le-ltb, eq-eqb, ne_eqb}
use Rattle.headers.proofs.Rules.{obeyed}
use Rattle.builders.proofs.constraint_matrix.build.Goals as goal

pub returns-then-tables-ne1024 : goal.returns-then-tables-ne1024
returns-then-tables-ne1024 c = record { answer = simp (obeyed c.requires.0, ne_eqb _ _ c.if-tables-ne1024.true); memory = refl }

pub returns-then-count-least : goal.returns-then-count-least
returns-then-count-least c =
    record { answer = simp (obeyed c.requires.0, eq-eqb _ _ c.if-tables-ne1024.false, lt-ltb _ _ c.if-count-least.true); memory = refl }

pub returns-then-count-gt65535 : goal.returns-then-count-gt65535
returns-then-count-gt65535 c =
    record {
      answer = simp (obeyed c.requires.0, eq-eqb _ _ c.if-tables-ne1024.false, le-ltb _ _ c.if-count-least.false, lt-ltb _ _ c.if-count-gt65535.true);
      memory = refl;
    }

pub returns-then-ws-height : goal.returns-then-ws-height
returns-then-ws-height c =
    let o = c.requires.0 in
    let h = rw (c.row_word_width.ensures, o.derived.l-fits) at c.if-ws-height.true in
    record {
      answer = simp (obeyed o, eq-eqb _ _ c.if-tables-ne1024.false, le-ltb _ _ c.if-count-least.false, le-ltb 65535 _ c.if-count-gt65535.false, lt-ltb _ _ h);
      memory = refl;
    }

pub returns : goal.returns
returns c =
    let o = c.requires.0 in
    let e = o.derived.l-fits in
    let h = rw (c.row_word_width.ensures, e) at c.if-ws-height.false in
    record {
      answer =
          simp (obeyed o, eq-eqb _ _ c.if-tables-ne1024.false, le-ltb _ _ c.if-count-least.false, le-ltb 65535 _ c.if-count-gt65535.false, le-ltb _ _ h)
          (rw e);
      memory = c.fill.ensures;
    }
