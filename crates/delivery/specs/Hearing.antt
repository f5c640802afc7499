-- A delivery heard packet by packet (docs/DELIVERY.md), in the lent memory of an intake: a state, pivots, rows and symbols.
-- Assumes nothing.
use Rattle.std.specs.Prelude.{◌≡◌, List, Result, Ok, Err, ℕ, ◌+◌, ◌*◌, ◌≤◌, ◌<◌, length}
use Rattle.field.specs.Answer.{given, refused}
use Rattle.field.specs.Choice.{pick}
use Rattle.headers.specs.Row.{Obeys}
use Rattle.intake.specs.Night.{Holding, Stretch, arrived}
use Rattle.intake.specs.State.{k_in, l_in, row_in as State·row_in, t_in}
use Rattle.delivery.specs.Layout.{row_in, tables_of, f_of, k_of, t_of, n_of, esi_of, symbol_of, is_own, esis_in, symbols_in}
use Rattle.delivery.specs.Screen.{screen, stop_of}
use Rattle.delivery.specs.Received.{Concludes, Received}
use Rattle.delivery.specs.declared.beneath.packets.Passed.{Passed}
use Rattle.delivery.specs.declared.beneath.screen.Stop.{Stop}
use Rattle.delivery.specs.declared.beneath.receiver.Memory.{Memory}
use Rattle.delivery.specs.declared.beneath.receiver.Ready.{Ready}

-- ---- the lent memory

-- so many words, places and octets are room for every delivery that is taken
pub record Roomy (state pivots rows values : ℕ) : Type 0 where
  pub state-room : 1037 ≤ state
  pub pivots-room : 300 ≤ pivots
  pub rows-room : 90000 ≤ rows
  pub values-room : 307200 ≤ values

-- and it has them
abbrev pub RoomyMemory : Memory → Type 0
RoomyMemory m = Roomy (length m.state.now) (length m.pivots.now) (length m.rows.now) (length m.values.now)

-- it is the memory that it was, and as large
pub record StaysLent (m m₁ : Memory) : Type 0 where
  pub state : m₁.state.ghost_name ≡ m.state.ghost_name
  pub pivots : m₁.pivots.ghost_name ≡ m.pivots.ghost_name
  pub rows : m₁.rows.ghost_name ≡ m.rows.ghost_name
  pub values : m₁.values.ghost_name ≡ m.values.ghost_name
  pub state-size : length m₁.state.now ≡ length m.state.now
  pub pivots-size : length m₁.pivots.now ≡ length m.pivots.now
  pub rows-size : length m₁.rows.now ≡ length m.rows.now
  pub values-size : length m₁.values.now ≡ length m.values.now

-- it holds what came of a stretch
abbrev pub Held : Stretch → Memory → Type 0
Held z m = Holding z m.state.now m.pivots.now m.rows.now m.values.now

-- ---- what is heard

-- a delivery, of which the first n packets were heard
abbrev pub stretch_at : List ℕ → ℕ → Stretch
stretch_at d n = record {
  row = row_in d;
  tables = tables_of d;
  k = k_of d;
  t = t_of d;
  esis = esis_in d (t_of d) n;
  symbols = symbols_in d (t_of d) n;
}

-- of which all were
abbrev pub stretch_of : List ℕ → Stretch
stretch_of d = stretch_at d (n_of d)

-- one packet more: one of another block is passed over
abbrev pub hearing : Stretch → List ℕ → Stretch
hearing z p = pick (is_own p) (arrived z (esi_of p) (symbol_of p)) z

-- what was held is held with that packet
abbrev pub HearsMore : List ℕ → Memory → Memory → Type 0
HearsMore p m m₁ = (z : Stretch) → length p ≡ z.t + 4 → Held z m → Held (hearing z p) m₁

-- The first 4,128 bytes of h were read: T and F are told, and nothing was heard yet; or the reason why not, and the state is as it was.
abbrev pub Opens : (h st ps a d st₁ : List ℕ) → Result Ready Stop → Type 0
Opens h st ps a d st₁ (Ok r) = (screen h ≡ given tt) × (r.symbol_size ≡ t_of h) × (r.object_size ≡ f_of h) × Holding (stretch_at h 0) st₁ ps a d
Opens h st ps a d st₁ (Err why) = (screen h ≡ refused (stop_of why)) × (st₁ ≡ st)

-- how large they are
abbrev pub OpenedSmall : Result Ready Stop → Type 0
OpenedSmall (Ok r) = (r.symbol_size ≤ 1024) × (r.object_size ≤ 307200)
OpenedSmall (Err why) = Unit {0}

-- what rebuilding asks of the state, of a store for the set and of one for the block
pub record Restorable (st : List ℕ) (set out : ℕ) : Type 0 where
  pub size : 1037 ≤ length st
  pub rules : Obeys (State·row_in st)
  pub k-high : k_in st ≤ (State·row_in st).kp
  pub t-low : 0 < t_in st
  pub t-high : t_in st ≤ 65535
  pub symbols : l_in st * t_in st ≤ set
  pub room : set ≤ out

-- what comes of whatever was held, f bytes of an object, where p was passed over
abbrev pub ConcludesHeld : Memory → (f : ℕ) → Passed → (xs ys : List ℕ) → Received → Type 0
ConcludesHeld m f p xs ys o = (z : Stretch) → Held z m → Concludes z.row z.tables z.k z.t f p z.esis z.symbols xs ys o
