-- Which arrivals are among which: all are among themselves, and among those with more behind them.
-- Assumes nothing.
use mathlib.Core.Path.{◌≡◌, refl, sym}
use mathlib.Core.List.{List, ◌++◌}
use Prim.Native.Nat.{ℕ, ◌+◌, ◌*◌, ◌<◌}
use native.Mathlib.Omega.{arith}
use lib.ListN.{length, get_or, length-append, get_or-append}
use Rattle.linear.specs.Bytes.{cell}
use Rattle.linear.proofs.Bytes.{cell-lt}
use Rattle.promises.specs.Calls.{Came, Among}

pub among_self : (t : ℕ) (es xs : List ℕ) → Among t es xs es xs
among_self t es xs = record { each = λ i h. record { place = i; below = h; esi = refl; symbol = λ b l. refl } }

-- arrivals es, xs, and fs, ys behind them
module _ (t : ℕ) (es xs fs ys : List ℕ) (all : length xs ≡ length es * t) where
  pub old-esi : (i : ℕ) → i < length es → get_or (es ++ fs) i 0 ≡ get_or es i 0
  old-esi i h = get_or-append es fs 0 i h

  pub old-symbol : (i b : ℕ) → i < length es → b < t → cell t (xs ++ ys) i b ≡ cell t xs i b
  old-symbol i b h l = get_or-append xs ys 0 (i * t + b) (omega (arith, all, cell-lt t (length es) i b h l))

  pub among-more : Among t es xs (es ++ fs) (xs ++ ys)
  among-more = record { each = λ i h. old i h }
    where
      old : (i : ℕ) → i < length es → Came t (es ++ fs) (xs ++ ys) (get_or es i 0) (cell t xs i)
      old i h = record { place = i; below = omega (arith, length-append es fs); esi = sym (old-esi i h); symbol = λ b l. sym (old-symbol i b h l) }
