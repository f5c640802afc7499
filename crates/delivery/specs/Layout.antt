-- A delivery, byte by byte (docs/DELIVERY.md): transmission information, row, tables, packets.
-- Assumes nothing.
use Rattle.std.specs.Prelude.{Bool, not, List, [], ◌∷◌, ◌++◌, ℕ, zero, suc, ◌+◌, ◌-◌, ◌*◌, ◌/◌, ◌%◌, eqb, length, take, drop}
use Rattle.field.specs.Choice.{pick}
use Rattle.headers.specs.Bytes.{number}
use Rattle.headers.specs.Headers.{id_at, info_at}
use Rattle.headers.specs.Quotient.{ceil}
use Rattle.headers.specs.Row.{row_of}
use Rattle.headers.specs.declared.row.Row.{Row}
use Rattle.headers.specs.declared.transmission.ObjectTransmissionInformation.{ObjectTransmissionInformation}
use Rattle.linear.specs.Bytes.{tabulate}
use Rattle.delivery.specs.declared.beneath.packets.Passed.{Passed}

-- the first twelve bytes
unfoldable pub info_of : List ℕ → ObjectTransmissionInformation
info_of d = info_at d

-- F, T, and K = ceil(F/T) (RFC 6330, 4.4.1.2, of one block)
abbrev pub f_of : List ℕ → ℕ
f_of d = (info_of d).transfer_length

abbrev pub t_of : List ℕ → ℕ
t_of d = (info_of d).symbol_size

abbrev pub k_of : List ℕ → ℕ
k_of d = ceil (f_of d) (t_of d)

-- K', J, S, H, W: four bytes each; the record of them
unfoldable pub row_in : List ℕ → Row
row_in d = row_of (number d 12 4) (number d 16 4) (number d 20 4) (number d 24 4) (number d 28 4)

-- the random tables: 1,024 numbers of four bytes
abbrev pub entry_at : List ℕ → ℕ → ℕ
entry_at d i = number d (32 + 4 * i) 4

unfoldable pub tables_of : List ℕ → List ℕ
tables_of d = tabulate 1024 (entry_at d)

-- how many whole packets with symbols of t bytes there are in a delivery of `len` bytes, how many bytes are left, of a last one that is not whole,
-- and where packet i begins
abbrev pub count_of : ℕ → ℕ → ℕ
count_of len t = (len - 4128) / (t + 4)

abbrev pub left_of : ℕ → ℕ → ℕ
left_of len t = (len - 4128) % (t + 4)

abbrev pub packet_at : ℕ → ℕ → ℕ
packet_at t i = 4128 + i * (t + 4)

-- packet i
abbrev pub packet_of : List ℕ → ℕ → ℕ → List ℕ
packet_of d t i = take (t + 4) (drop (packet_at t i) d)

-- of a packet: its ESI, its symbol, and whether it is of block 0
abbrev pub esi_of : List ℕ → ℕ
esi_of p = (id_at p).encoding_symbol_id

abbrev pub symbol_of : List ℕ → List ℕ
symbol_of p = drop 4 p

abbrev pub is_own : List ℕ → Bool
is_own p = eqb (id_at p).source_block_number 0

-- of the first n packets those of block 0, in their order: their ESIs, and their symbols one after the other
unfoldable pub esis_in : List ℕ → ℕ → ℕ → List ℕ
esis_in d t zero = []
esis_in d t (suc n) = pick (is_own (packet_of d t n)) (esis_in d t n ++ (esi_of (packet_of d t n) ∷ [])) (esis_in d t n)

unfoldable pub symbols_in : List ℕ → ℕ → ℕ → List ℕ
symbols_in d t zero = []
symbols_in d t (suc n) = pick (is_own (packet_of d t n)) (symbols_in d t n ++ symbol_of (packet_of d t n)) (symbols_in d t n)

-- and how many are of another
unfoldable pub others_in : List ℕ → ℕ → ℕ → ℕ
others_in d t zero = 0
others_in d t (suc n) = pick (is_own (packet_of d t n)) (others_in d t n) (others_in d t n + 1)

-- how many whole packets a delivery has; of those of its block the ESIs and the symbols
abbrev pub n_of : List ℕ → ℕ
n_of d = count_of (length d) (t_of d)

abbrev pub esis_of : List ℕ → List ℕ
esis_of d = esis_in d (t_of d) (n_of d)

abbrev pub symbols_of : List ℕ → List ℕ
symbols_of d = symbols_in d (t_of d) (n_of d)

-- what is passed over: the packets of other blocks, and a last packet that is not whole
abbrev pub passed_of : List ℕ → Passed
passed_of d = record { others = others_in d (t_of d) (n_of d); cut = not (eqb (left_of (length d) (t_of d)) 0) }
