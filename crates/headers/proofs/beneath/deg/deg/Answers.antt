-- `headers::beneath::deg::deg` meets its contract: the scan stops at the first threshold past v, and v lies in the interval that ends there.
-- Assumes nothing.
use Rattle.std.proofs.Common.{◌≡◌, ℕ, zero, suc, ◌-◌, ◌<◌, ◌≤◌, Option, Some, None, MatchOption, length, get_or, unwrap_or, min, ap, ◌∙◌, rules, tests, arith}
use Rattle.std.specs.List.{AllWithin, HoldsAt}
use Rattle.std.proofs.lemmas.Iterator.{YieldsList-from_slice, IsFirst-from_position}
use Rattle.headers.specs.Degree.{IntervalOf, thresholds}
use Rattle.headers.proofs.Rising.{held-degree}
use Rattle.headers.proofs.beneath.deg.deg.Goals as goal

scanned : (v : ℕ) (r : Option ℕ) → v < 1048576 → MatchOption r (AllWithin (λ f. f ≤ v) thresholds 0 (length thresholds))
    (λ k. (k < length thresholds) × HoldsAt (λ f. v < f) thresholds k × AllWithin (λ f. f ≤ v) thresholds 0 k) → IntervalOf v (unwrap_or r 31)
scanned v None h all = absurd (let last : 1048576 ≤ v = all 30 0 (omega arith) (omega arith) in omega arith)
scanned v (Some zero) h s = absurd (let first : v < 0 = s.1 0 in omega arith)
scanned v (Some (suc k)) h s = record { low = omega arith; high = omega (arith, s.0); from = s.2 (suc k - 1) 0 (omega arith) (omega arith); to = s.1 0 }

pub returns : goal.returns
returns c =
    let v = c.args.v in
    let found = IsFirst-from_position _ _ _ (λ f. v < f) (λ f. f ≤ v) c.position.ensures.ran (YieldsList-from_slice thresholds cc)
    (λ x q k. search (rules, tests)) (λ x q k. search (rules, tests)) in
    held-degree c.args.w c.requires.0 (scanned v c.position.result c.requires.0 found) (c.min.ensures ∙ ap (λ (d : ℕ). min d (c.args.w - 2)) c.unwrap_or-d.ensures)
