-- `encoding::encoder::encode` meets its contract: the tuple is that of the shifted ESI, and its walk adds up its row.
-- Assumes nothing.
use Rattle.std.proofs.Common.{◌≡◌, ℕ, ◌+◌, ◌*◌, ◌≤◌, length, refl, sym, ap, subst, arith}
use Rattle.headers.specs.Shift.{shifted}
use Rattle.headers.specs.Tuples.{Bounds}
use Rattle.headers.specs.declared.tuple.Tuple.{Tuple}
use Rattle.headers.proofs.Accepted.{l-is, own-ready}
use Rattle.headers.proofs.Tuples.{bounded, degrees-high}
use Rattle.constraints.proofs.Accepted.{own-walks}
use Rattle.encoding.proofs.Allowed.{Allowed, allowed-well, tuple_is, encoded-walk}
use Rattle.encoding.proofs.encoder.encode.Goals as goal

pub isi_of-x-requires : goal.isi_of-x-requires
isi_of-x-requires c =
    let a = c.args in
    let h = allowed-well a.r (length a.tables.now) a.k a.t a.esi (length a.intermediates.now) (length a.out.now) (sym c.in_ok-check.ensures) in
    (h.esi-24, omega (arith, h.k-high), h.rules.ranges.kp-16)

pub intermediate_tuple-z-requires : goal.intermediate_tuple-z-requires
intermediate_tuple-z-requires c =
    let a = c.args in
    let h = allowed-well a.r (length a.tables.now) a.k a.t a.esi (length a.intermediates.now) (length a.out.now) (sym c.in_ok-check.ensures) in
    own-ready h.rules h.all

pub enc-requires : goal.enc-requires
enc-requires c =
    let a = c.args in
    let h = allowed-well a.r (length a.tables.now) a.k a.t a.esi (length a.intermediates.now) (length a.out.now) (sym c.in_ok-check.ensures) in
    let made = sym c.intermediate_tuple-z.ensures in
    let l : a.r.w + a.r.p ≡ _ = omega (arith, h.rules.derived.p-fits, l-is h.rules) in (
      own-walks h.rules,
      subst (Bounds a.r.w a.r.p1) made (bounded (own-ready h.rules h.all) _),
      subst (λ (z : Tuple). z.d + z.d1 ≤ 32) made (degrees-high _ _ _ _ _),
      h.fits,
      rw l h.enough,
    )

pub returns : goal.returns
returns c =
    let a = c.args in
    let h = allowed-well a.r (length a.tables.now) a.k a.t a.esi (length a.intermediates.now) (length a.out.now) (sym c.in_ok-check.ensures) in
    let d = h.rules.derived in
    let made = tuple_is a.tables.now a.r c.intermediate_tuple-z.ensures d.p1-fits c.isi_of-x.ensures in
    record {
      answer = c.in_ok-check.ensures;
      memory = encoded-walk h.rules a.tables.now _ a.t a.intermediates.now made d.p-fits d.p1-fits c.enc.ensures;
    }
