-- The words of a constraint matrix can be counted.
-- Assumes nothing.
use Prim.Native.Nat.{ℕ, ◌+◌, ◌/◌, ◌≤◌}
use native.Mathlib.Nat.{mul-le-mul}
use native.Mathlib.Omega.{arith}
use Rattle.headers.specs.Row.{Obeys, l_of}
use Rattle.headers.specs.declared.row.Row.{Row}
use Rattle.stores.specs.Matrix.{words_of}
use Rattle.builders.specs.Built.{shaped}

pub fits : {r : Row} → Obeys r → (zeros n : ℕ) → zeros ≤ r.h → n ≤ 65535 → words_of (shaped r zeros n) ≤ 134215680
fits {r} o zeros n h l =
    let w : (l_of r + 63) / 64 ≤ 1024 = omega (arith, o.l-high) in
    mul-le-mul {n₁ = r.s + zeros + n} {m₁ = (l_of r + 63) / 64} {n₂ = 131070} {m₂ = 1024} (omega (arith, o.l-high)) w
