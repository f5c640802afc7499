-- What comes of a delivery (docs/DELIVERY.md).
-- Assumes nothing.
use Rattle.std.specs.Prelude.{◌≡◌, List, Result, Ok, Err, ℕ, ◌*◌, ◌/◌, ◌%◌, ◌≤◌, ◌<◌, length, take}
use Rattle.field.specs.Answer.{given, refused}
use Rattle.field.specs.Runs.{Written}
use Rattle.headers.specs.Row.{Obeys, l_of}
use Rattle.headers.specs.declared.row.Row.{Row}
use Rattle.linear.specs.System.{System}
use Rattle.encoding.specs.Encoded.{encoded}
use Rattle.elimination.specs.Verdict.{Means}
use Rattle.elimination.specs.declared.verdict.Verdict.{Verdict}
use Rattle.elimination.specs.declared.verdict.Verdict.TheVariants.{Solved, Contradiction, Open}
use Rattle.solver.specs.System.{system_of}
use Rattle.delivery.specs.Layout.{row_in, tables_of, f_of, k_of, t_of, esis_of, symbols_of, passed_of}
use Rattle.delivery.specs.Screen.{screen, stop_of}
use Rattle.delivery.specs.declared.beneath.packets.Passed.{Passed}
use Rattle.delivery.specs.declared.beneath.screen.Stop.{Stop}
use Rattle.delivery.specs.declared.beneath.receiver.Concluded.{Concluded}

-- byte x of the source symbols, one after the other: the ISIs below K are theirs (RFC 6330, 5.3.3.4.2 and 5.3.5.3)
abbrev pub source_octet : List ℕ → Row → ℕ → List ℕ → ℕ → ℕ
source_octet v r t C x = encoded v r (x / t) t C (x % t)

-- what rebuilding asks: C holds all L symbols, and xs has room for the block
pub record Rebuildable (r : Row) (v : List ℕ) (k t : ℕ) (C xs : List ℕ) : Type 0 where
  pub rules : Obeys r
  pub tables : length v ≡ 1024
  pub k-high : k ≤ r.kp
  pub t-low : 0 < t
  pub symbols : l_of r * t ≤ length C
  pub room : k * t ≤ length xs

-- the source symbols at the front of the store, or the store as it was
abbrev pub Leaves : List ℕ → Row → ℕ → ℕ → (C xs ys : List ℕ) → Verdict → Type 0
Leaves v r k t C xs ys Solved = Written (source_octet v r t C) xs ys 0 (k * t)
Leaves v r k t C xs ys Contradiction = ys ≡ xs
Leaves v r k t C xs ys (Open s) = ys ≡ xs

-- A verdict on the system S of a block: what it means is the solver's word, of its store of symbols before, `was`, and after, `set`. The K source symbols
-- of a set that is solved, the object and its padding, stand at the front of our store, xs before and ys after.
pub record Concluding (r : Row) (v : List ℕ) (k t : ℕ) (S : System ℕ) (xs ys : List ℕ) (verdict : Verdict) : Type 0 where
  pub was : List ℕ
  pub set : List ℕ
  pub means : Means (l_of r) t S was set verdict
  pub leaves : Leaves v r k t (take (l_of r * t) set) xs ys verdict

-- what comes of a delivery: what was concluded of it, or why it is not taken
abbrev pub Received : Type 0
Received = Result Concluded Stop

abbrev pub taken : Verdict → ℕ → Passed → Received
taken v n p = Ok (record { verdict = v; size = n; passed = p })

-- what comes of a block of f bytes whose packets have the ESIs es and the symbols zs, where p was passed over
abbrev pub Concludes : Row → List ℕ → (k t f : ℕ) → Passed → (es zs xs ys : List ℕ) → Received → Type 0
Concludes r v k t f p es zs xs ys (Ok c) = (c.size ≡ f) × (c.passed ≡ p) × Concluding r v k t (system_of r v k t es zs) xs ys c.verdict
Concludes r v k t f p es zs xs ys (Err why) = ⊥

-- the system of a delivery: that of its row, tables, K, T, and of the packets of its block
abbrev pub delivered_system : List ℕ → System ℕ
delivered_system d = system_of (row_in d) (tables_of d) (k_of d) (t_of d) (esis_of d) (symbols_of d)

-- what comes of a delivery that is taken
abbrev pub Heard : (d xs ys : List ℕ) → Received → Type 0
Heard d xs ys = Concludes (row_in d) (tables_of d) (k_of d) (t_of d) (f_of d) (passed_of d) (esis_of d) (symbols_of d) xs ys

-- The contract. A delivery that is not taken changes nothing; one that is taken has the verdict on its system.
abbrev pub Comes : (d xs ys : List ℕ) → Received → Type 0
Comes d xs ys (Ok c) = (screen d ≡ given tt) × Heard d xs ys (Ok c)
Comes d xs ys (Err why) = (screen d ≡ refused (stop_of why)) × (ys ≡ xs)

-- the object is no longer than m bytes
abbrev pub InRoom : ℕ → Received → Type 0
InRoom m (Ok c) = c.size ≤ m
InRoom m (Err why) = Unit {0}
