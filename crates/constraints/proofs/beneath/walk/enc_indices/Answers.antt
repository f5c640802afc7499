-- `constraints::beneath::walk::enc_indices` meets its contract: the two lists, one after the other.
-- Assumes nothing.
use mathlib.Core.Path.{◌≡◌}
use Prim.Native.Nat.{◌+◌}
use native.Mathlib.Omega.{arith}
use lib.ListN.{length}
use Rattle.headers.proofs.Bytes.{laid-append}
use Rattle.constraints.specs.Walk.{lt_places, pi_places, places}
use Rattle.constraints.proofs.Lists.{lt-length}
use Rattle.constraints.proofs.beneath.walk.enc_indices.Goals as goal

pub returns : goal.returns
unfolding places
returns c =
    let a = c.args in
    let e : a.t.d ≡ 0 + length (lt_places a.w a.t.a a.t.d a.t.b) = omega (arith, lt-length a.w a.t.a a.t.d a.t.b) in
    laid-append (lt_places a.w a.t.a a.t.d a.t.b) (pi_places a.w a.p a.p1 a.t.a1 a.t.d1 a.t.b1)
    c.lt_places.ensures e c.pi_places.ensures
