use mathlib.Core.Path.{◌≡◌}
use mathlib.Core.List.{List}
use Prim.Native.Nat.{ℕ, ◌+◌, ◌-◌, ◌≤◌, ◌<◌}
use native.Mathlib.Omega.{arith}
use lib.ListN.{length, take, drop}
use Rattle.std.proofs.Common.{rules}
use Rattle.delivery.specs.Layout.{count_of, packet_at, packet_of}
use Rattle.delivery.proofs.Gathering.{packet-ends, packets-in, part-packet, others-none, others-most}
use Rattle.delivery.proofs.Settling.{heard-one, tallied, heard_all, passed_is}
use Rattle.delivery.proofs.beneath.receiver.hear_all.Goals as goal

-- packet i is inside, and is the part that is lent
ends : (d : List ℕ) (t : ℕ) {n i : ℕ} → 4128 ≤ length d → n ≡ count_of (length d) t → i < n → packet_at t i + (t + 4) ≤ length d
ends d t {n} {i} h e l =
    let q : i < count_of (length d) t = omega arith in
    omega (arith, packet-ends t i (count_of (length d) t) q, packets-in (length d) t h)

packet-is : (d : List ℕ) (t : ℕ) {n i : ℕ} → 4128 ≤ length d → n ≡ count_of (length d) t → i < n
    → (take (packet_at t i + (t + 4) - packet_at t i) (drop (packet_at t i) d) ≡ packet_of d t i)
    × (length (take (packet_at t i + (t + 4) - packet_at t i) (drop (packet_at t i) d)) ≡ t + 4)
packet-is d t {n} {i} h e l =
    let q : i < count_of (length d) t = omega arith in
    part-packet d t i (count_of (length d) t) q (packets-in (length d) t h)

pub loop-i-init : goal.loop-i-init
loop-i-init c = record { others = others-none c.args.bytes.now c.args.t; heard = c.requires.opened; lent = search rules }

pub overflow_mul-at : goal.overflow_mul-at
overflow_mul-at c = omega (arith, ends c.args.bytes.now c.args.t c.requires.in_bounds.0 c.count-n.ensures c.loop-i-test.true)

pub overflow_add-at : goal.overflow_add-at
overflow_add-at c = omega (arith, ends c.args.bytes.now c.args.t c.requires.in_bounds.0 c.count-n.ensures c.loop-i-test.true)

pub overflow_add-at-in-loop-i : goal.overflow_add-at-in-loop-i
overflow_add-at-in-loop-i c = omega (arith, ends c.args.bytes.now c.args.t c.requires.in_bounds.0 c.count-n.ensures c.loop-i-test.true)

pub slice_bounds-hear-end : goal.slice_bounds-hear-end
slice_bounds-hear-end c = omega (arith, ends c.args.bytes.now c.args.t c.requires.in_bounds.0 c.count-n.ensures c.loop-i-test.true)

pub hear-own-requires : goal.hear-own-requires
hear-own-requires c = omega (arith, (packet-is c.args.bytes.now c.args.t c.requires.in_bounds.0 c.count-n.ensures c.loop-i-test.true).1)

pub tally-others-requires : goal.tally-others-requires
tally-others-requires c =
    omega (
      arith,
      ends c.args.bytes.now c.args.t c.requires.in_bounds.0 c.count-n.ensures c.loop-i-test.true,
      c.loop-i.invariant.others,
      others-most c.args.bytes.now c.args.t c.loop-i.i,
    )

pub loop-i-preserved : goal.loop-i-preserved
loop-i-preserved c =
    let d = c.args.bytes.now in
    let p = packet-is d c.args.t c.requires.in_bounds.0 c.count-n.ensures c.loop-i-test.true in
    record {
      others = tallied d c.args.t c.loop-i.i p.0 c.hear-own.ensures.value c.loop-i.invariant.others c.tally-others.ensures.0;
      heard = heard-one d c.loop-i.i c.loop-i.memory c.hear-own.new.memory c.requires.in_bounds.1 p.0 p.1 c.hear-own.ensures.hears_more c.loop-i.invariant.heard;
      lent = search rules;
    }

pub returns-clause-value : goal.returns-clause-value
returns-clause-value c =
    let e : c.loop-i.i ≡ c.count-n.result = omega arith in
    passed_is c.args.bytes.now c.requires.in_bounds.1 c.count-n.ensures e c.loop-i.invariant.others

pub returns-clause-heard : goal.returns-clause-heard
returns-clause-heard c =
    let e : c.loop-i.i ≡ c.count-n.result = omega arith in
    heard_all c.args.bytes.now c.loop-i.memory c.requires.in_bounds.1 c.count-n.ensures e c.loop-i.invariant.heard
