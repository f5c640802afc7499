-- `headers::transmission::check` meets its contract.
-- Assumes nothing.
use Rattle.std.proofs.Common.{◌≡◌, ℕ, sym, ap, ◌∙◌, arith}
use Rattle.headers.specs.Quotient.{ceil}
use Rattle.headers.specs.declared.transmission.ObjectTransmissionInformation.{ObjectTransmissionInformation}
use Rattle.headers.proofs.Information.{info-obeyed, info-disobeyed}
use Rattle.headers.proofs.transmission.check.Goals as goal

-- the two quotients, one of the other
quotients : (o : ObjectTransmissionInformation) {x y : ℕ} → x ≡ ceil o.transfer_length o.symbol_size → y ≡ ceil x o.num_source_blocks
    → y ≡ ceil (ceil o.transfer_length o.symbol_size) o.num_source_blocks
quotients o e d = d ∙ ap (λ (n : ℕ). ceil n o.num_source_blocks) e

pub returns-then-info-gt942574504275 : goal.returns-then-info-gt942574504275
returns-then-info-gt942574504275 c = sym (info-disobeyed c.args.info (λ k. omega (arith, k.f-high)))

pub returns-then-info-eq0 : goal.returns-then-info-eq0
returns-then-info-eq0 c = sym (info-disobeyed c.args.info (λ k. omega (arith, k.al-low)))

pub returns-then-info-ne0 : goal.returns-then-info-ne0
returns-then-info-ne0 c = sym (info-disobeyed c.args.info (λ k. c.if-info-ne0.true k.aligned))

pub returns-then-info-eq0-2 : goal.returns-then-info-eq0-2
returns-then-info-eq0-2 c = sym (info-disobeyed c.args.info (λ k. omega (arith, k.t-low)))

pub returns-then-info-eq0-3 : goal.returns-then-info-eq0-3
returns-then-info-eq0-3 c = sym (info-disobeyed c.args.info (λ k. omega (arith, k.z-low)))

pub returns-then-info-eq0-4 : goal.returns-then-info-eq0-4
returns-then-info-eq0-4 c = sym (info-disobeyed c.args.info (λ k. omega (arith, k.n-low)))

pub returns-then-info : goal.returns-then-info
returns-then-info c = sym (info-disobeyed c.args.info (λ k. omega (arith, k.n-high)))

pub returns-then-int_div_ceil-gt56403 : goal.returns-then-int_div_ceil-gt56403
returns-then-int_div_ceil-gt56403 c =
    let o = c.args.info in
    let q = quotients o c.int_div_ceil-symbols.ensures c.int_div_ceil.ensures in
    sym (info-disobeyed o (λ k. omega (arith, k.k-high, q)))

pub returns : goal.returns
returns c =
    let o = c.args.info in
    let q = quotients o c.int_div_ceil-symbols.ensures c.int_div_ceil.ensures in
    sym
    (info-obeyed o
    (record {
      f-high = omega (arith, c.if-info-gt942574504275.false);
      al-low = omega arith;
      aligned = c.if-info-ne0.false;
      t-low = omega arith;
      z-low = omega arith;
      n-low = omega arith;
      n-high = omega arith;
      k-high = omega (arith, q);
    }))
