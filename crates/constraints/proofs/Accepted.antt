-- What a checked row gives the rows of constraints; and that the tests of a tuple decide its bounds.
-- Assumes nothing.
use mathlib.Core.Path.{◌≡◌}
use mathlib.Core.Bool.{true, false}
use Prim.Native.Nat.{ℕ, ◌-◌, ◌≤◌, ◌<◌}
use native.Mathlib.Omega.{arith}
use Rattle.headers.specs.Row.{Obeys, p_of, p1_of}
use Rattle.headers.specs.Tuples.{Bounds}
use Rattle.headers.specs.declared.row.Row.{Row}
use Rattle.headers.specs.declared.tuple.Tuple.{Tuple}
use Rattle.headers.proofs.Accepted.{s-below-w, l-is, p1-prime, p-p1, p1-high}
use Rattle.headers.proofs.Tests.{Tells, tells_both, tells_as, tells-le, tells-lt, is_true, is_false}
use Rattle.constraints.specs.Walk.{Walks}
use Rattle.constraints.specs.Ldpc.{Crosses}
use Rattle.constraints.specs.Answers.{from, bounded}

-- what a walk asks
pub walks : {r : Row} → Obeys r → Walks r.w (p_of r) (p1_of r)
walks o =
    record {
      w-prime = o.w-prime;
      p1-prime = p1-prime o;
      p-low = o.p-low;
      p-p1 = p-p1 o;
      all = omega (arith, o.l-high, l-is o);
      p1-high = omega (arith, p1-high o);
    }

-- what an LDPC row asks
pub crosses : {r : Row} → Obeys r → Crosses r.s r.w (p_of r)
crosses o =
    record {
      s-low = o.ranges.s-low;
      s-odd = o.ranges.s-odd;
      b-low = s-below-w o;
      b-high = o.b-high;
      p-low = o.p-low;
      all = omega (arith, o.l-high, l-is o);
    }

-- the same of the numbers that the record carries
pub own-walks : {r : Row} → Obeys r → Walks r.w r.p r.p1
own-walks o = rw (o.derived.p-fits, o.derived.p1-fits) (walks o)

pub own-crosses : {r : Row} → Obeys r → Crosses r.s r.w r.p
own-crosses o = rw o.derived.p-fits (crosses o)

within : (low n high : ℕ) → Tells (from low n high) ((low ≤ n) × (n < high))
within low n high = tells_both (tells-le low n) (tells-lt n high)

-- the tests of a tuple decide its bounds
pub bounded_tells : (w p1 : ℕ) (t : Tuple) → Tells (bounded w p1 t) (Bounds w p1 t)
unfolding bounded
bounded_tells w p1 t =
    tells_as
    (λ b. record {
      d-low = b.0.0;
      d-high = b.0.1;
      d-w = b.1.0;
      a-low = b.1.1.0.0;
      a-high = b.1.1.0.1;
      b-high = b.1.1.1.0;
      d1-low = b.1.1.1.1.0.0;
      d1-high = b.1.1.1.1.0.1;
      a1-low = b.1.1.1.1.1.0.0;
      a1-high = b.1.1.1.1.1.0.1;
      b1-high = b.1.1.1.1.1.1;
    })
    (λ b.
    ((b.d-low, b.d-high), (b.d-w, ((b.a-low, b.a-high), (b.b-high, ((b.d1-low, b.d1-high), ((b.a1-low, b.a1-high), b.b1-high)))))))
    (tells_both (tells_both (tells-le 1 t.d) (tells-le t.d 30)) (tells_both (tells-le t.d (w - 2)) (tells_both (within 1 t.a w)
    (tells_both (tells-lt t.b w) (tells_both (tells_both (tells-le 2 t.d1) (tells-le t.d1 3))
    (tells_both (within 1 t.a1 p1) (tells-lt t.b1 p1)))))))

pub inside-bounds : {w p1 : ℕ} {t : Tuple} → Bounds w p1 t → bounded w p1 t ≡ true
inside-bounds {w} {p1} {t} b = is_true (bounded_tells w p1 t) b

pub outside-bounds : {w p1 : ℕ} {t : Tuple} → (Bounds w p1 t → ⊥) → bounded w p1 t ≡ false
outside-bounds {w} {p1} {t} n = is_false (bounded_tells w p1 t) n
