-- Payload ids, transmission information and packets: RFC 6330, 3.2, 3.3.2, 3.3.3 and 4.4.2; document 01, 'Headers'; document 02, E3.
-- Assumes nothing.
use Rattle.std.specs.Prelude.{◌≡◌, ℕ, ◌+◌, ◌-◌, ◌/◌, ◌%◌, ◌≤◌, Bool, not, List, Result, ◌++◌, length, ◌==◌, nat_le, nat_lt}
use Rattle.field.specs.Answer.{Outcome, Left, given, unless, outcome, outcome_of}
use Rattle.field.specs.Choice.{both}
use Rattle.headers.specs.Bytes.{Laid, in_bytes, number}
use Rattle.headers.specs.Quotient.{ceil}
use Rattle.field.specs.declared.refusal.Refusal.{Refusal}
use Rattle.headers.specs.declared.payload_id.PayloadId.{PayloadId}
use Rattle.headers.specs.declared.transmission.ObjectTransmissionInformation.{ObjectTransmissionInformation}
use Rattle.headers.specs.declared.packet.Cursor.{Cursor}
use Rattle.headers.specs.declared.packet.Packet.{Packet}

-- a writer answers by the room that it was lent, and leaves its bytes at the front of the store, or the store as it was
pub record Stores (room : Outcome (Unit {0})) (bs xs ys : List ℕ) (r : Result (Unit {0}) Refusal) : Type 0 where
  pub answer : outcome r ≡ room
  pub memory : Left (outcome r) xs ys (Laid bs xs ys 0)

-- may it be done? A number of at most `most`, else n; a store of at least `need` bytes, else 8
abbrev pub room : ℕ → ℕ → ℕ → ℕ → ℕ → Outcome (Unit {0})
room x most n need size = unless (nat_lt most x) n (unless (nat_lt size need) 8 (given tt))

-- 1 byte block number, 3 bytes ESI
abbrev pub id_bytes : PayloadId → List ℕ
id_bytes i = in_bytes 1 i.source_block_number ++ in_bytes 3 i.encoding_symbol_id

abbrev pub id_at : List ℕ → PayloadId
id_at s = record { source_block_number = number s 0 1; encoding_symbol_id = number s 1 3 }

abbrev pub read_id : List ℕ → Outcome PayloadId
read_id s = unless (not (length s == 4)) 8 (given (id_at s))

abbrev pub room_for_id : PayloadId → ℕ → Outcome (Unit {0})
room_for_id i = room i.encoding_symbol_id 16777215 9 4

-- xs and ys: the store before and after
abbrev pub IdStored : PayloadId → List ℕ → List ℕ → Result (Unit {0}) Refusal → Type 0
IdStored i xs ys = Stores (room_for_id i (length xs)) (id_bytes i) xs ys

-- F 5 bytes, reserved 1, T 2, Z 1, N 2, Al 1
abbrev pub info_bytes : ObjectTransmissionInformation → List ℕ
info_bytes o =
    in_bytes 5 o.transfer_length ++ in_bytes 1 0 ++ in_bytes 2 o.symbol_size ++ in_bytes 1 o.num_source_blocks
    ++ in_bytes 2 o.num_sub_blocks
    ++ in_bytes 1 o.symbol_alignment

abbrev pub info_at : List ℕ → ObjectTransmissionInformation
info_at s =
    record {
      transfer_length = number s 0 5;
      symbol_size = number s 6 2;
      num_source_blocks = number s 8 1;
      num_sub_blocks = number s 9 2;
      symbol_alignment = number s 11 1;
    }

abbrev pub read_info : List ℕ → Outcome ObjectTransmissionInformation
read_info s = unless (not (length s == 12)) 8 (given (info_at s))

abbrev pub room_for_info : ObjectTransmissionInformation → ℕ → Outcome (Unit {0})
room_for_info o = room o.transfer_length 1099511627775 2 12

abbrev pub InfoStored : ObjectTransmissionInformation → List ℕ → List ℕ → Result (Unit {0}) Refusal → Type 0
InfoStored o xs ys = Stores (room_for_info o (length xs)) (info_bytes o) xs ys

-- too many symbols in a block: ceil(ceil(F/T)/Z) exceeds the largest K'
abbrev pub crowded : ℕ → ℕ → ℕ → Bool
crowded f t z = nat_lt 56403 (ceil (ceil f t) z)

-- the rules of document 01, 'Headers', as document 02, E3, amends them: T, Z and N are not 0, and N is at most T/Al
abbrev pub info_obeys : ObjectTransmissionInformation → Bool
info_obeys o =
    both (nat_le o.transfer_length 942574504275)
    (both (nat_le 1 o.symbol_alignment)
    (both (o.symbol_size % o.symbol_alignment == 0)
    (both (nat_le 1 o.symbol_size)
    (both (nat_le 1 o.num_source_blocks)
    (both (nat_le 1 o.num_sub_blocks)
    (both (nat_le o.num_sub_blocks (o.symbol_size / o.symbol_alignment))
    (not (crowded o.transfer_length o.symbol_size o.num_source_blocks))))))))

-- 3 where one of them breaks
abbrev pub info_checked : ObjectTransmissionInformation → Outcome (Unit {0})
info_checked o = unless (not (info_obeys o)) 3 (given tt)

-- the same rules as facts, which the tests decide (`info-tells`)
pub record InfoObeys (o : ObjectTransmissionInformation) : Type 0 where
  pub f-high : o.transfer_length ≤ 942574504275
  pub al-low : 1 ≤ o.symbol_alignment
  pub aligned : o.symbol_size % o.symbol_alignment ≡ 0
  pub t-low : 1 ≤ o.symbol_size
  pub z-low : 1 ≤ o.num_source_blocks
  pub n-low : 1 ≤ o.num_sub_blocks
  pub n-high : o.num_sub_blocks ≤ o.symbol_size / o.symbol_alignment
  pub k-high : ceil (ceil o.transfer_length o.symbol_size) o.num_source_blocks ≤ 56403

-- the id at the front of a packet, and the place of what follows it
abbrev pub headed : List ℕ → Outcome (PayloadId × ℕ)
headed s = unless (nat_lt (length s) 4) 8 (given (id_at s, 4))

abbrev pub head_outcome : Result (PayloadId × Cursor) Refusal → Outcome (PayloadId × ℕ)
head_outcome = outcome_of (λ x. (x.0, x.1.at))

-- the id, and where the rest begins and how long it is
abbrev pub read_packet : List ℕ → Outcome (PayloadId × ℕ × ℕ)
read_packet s = unless (nat_lt (length s) 4) 8 (given (id_at s, 4, length s - 4))

abbrev pub packet_outcome : Result Packet Refusal → Outcome (PayloadId × ℕ × ℕ)
packet_outcome = outcome_of (λ p. (p.payload_id, p.from, p.len))

-- an id and n bytes more
abbrev pub room_for_packet : PayloadId → ℕ → ℕ → Outcome (Unit {0})
room_for_packet i n = room i.encoding_symbol_id 16777215 9 (4 + n)

abbrev pub PacketStored : PayloadId → List ℕ → List ℕ → List ℕ → Result (Unit {0}) Refusal → Type 0
PacketStored i bs xs ys = Stores (room_for_packet i (length bs) (length xs)) (id_bytes i ++ bs) xs ys
