-- `delivery::beneath::screen::screen_row` meets its contract.
-- Assumes nothing.
use Prim.Native.Nat.{◌≤◌, ◌<◌}
use native.Mathlib.Omega.{arith}
use borrow.Author.Tests.{lt-ltb, le-ltb}
use Rattle.headers.specs.Row.{l_of}
use Rattle.headers.proofs.Rules.{obeyed}
use Rattle.delivery.proofs.beneath.screen.screen_row.Goals as goal
use Rattle.delivery.proofs.beneath.screen.screen_row.Goals.{then-k-lt1-via-then-k-lt1, then-k-lt1-via-else-k-lt1+then-k-from}
use Rattle.delivery.proofs.beneath.screen.screen_row.Goals.{then-t-gt1024-via-then-t-gt1024, then-t-gt1024-via-else-t-gt1024+then-r-gt300}

pub returns-then-k-lt1 : goal.returns-then-k-lt1
returns-then-k-lt1 c =
    elim c.then-k-lt1.branch [
      | then-k-lt1-via-then-k-lt1 w ↦ simp (obeyed c.requires, lt-ltb _ _ w.if-k-lt1.true)
      | then-k-lt1-via-else-k-lt1+then-k-from w ↦
          let h : c.args.r.kp < c.args.k = omega arith in
          simp (obeyed c.requires, le-ltb _ _ w.if-k-lt1.false, lt-ltb _ _ h)
    ]

pub returns-then-t-gt1024 : goal.returns-then-t-gt1024
returns-then-t-gt1024 c =
    let k : c.args.k ≤ c.args.r.kp = omega arith in
    elim c.then-t-gt1024.branch [
      | then-t-gt1024-via-then-t-gt1024 w ↦ simp (obeyed c.requires, le-ltb _ _ c.if-k-lt1.false, le-ltb _ _ k, lt-ltb 1024 _ w.if-t-gt1024.true)
      | then-t-gt1024-via-else-t-gt1024+then-r-gt300 w ↦
          let h : 300 < l_of c.args.r = omega arith in
          simp (obeyed c.requires, le-ltb _ _ c.if-k-lt1.false, le-ltb _ _ k, le-ltb 1024 _ w.if-t-gt1024.false, lt-ltb 300 (l_of c.args.r) h)
    ]

pub returns : goal.returns
returns c =
    let k : c.args.k ≤ c.args.r.kp = omega arith in
    let h : l_of c.args.r ≤ 300 = omega arith in
    simp (obeyed c.requires, le-ltb _ _ c.if-k-lt1.false, le-ltb _ _ k, le-ltb 1024 _ c.if-t-gt1024.false, le-ltb 300 (l_of c.args.r) h)
