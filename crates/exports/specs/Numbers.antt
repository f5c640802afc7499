-- The records of the layers below as the numbers that C passes, in the order of include/spoonripple.h.
-- Assumes nothing.
use Rattle.std.specs.Prelude.{List, [], ◌∷◌, ℕ}
use Rattle.headers.specs.declared.payload_id.PayloadId.{PayloadId}
use Rattle.headers.specs.declared.transmission.ObjectTransmissionInformation.{ObjectTransmissionInformation}
use Rattle.headers.specs.declared.partition.Parts.{Parts}
use Rattle.headers.specs.declared.row.Row.{Row}
use Rattle.headers.specs.declared.tuple.Tuple.{Tuple}
use Rattle.slabs.specs.declared.symbol_slab.SymbolSlab.{SymbolSlab}

abbrev pub id : ℕ → ℕ → PayloadId
id sbn esi = record { source_block_number = sbn; encoding_symbol_id = esi }

abbrev pub id_numbers : PayloadId → List ℕ
id_numbers i = i.source_block_number ∷ i.encoding_symbol_id ∷ []

abbrev pub info : ℕ → ℕ → ℕ → ℕ → ℕ → ObjectTransmissionInformation
info f t z n al =
    record { transfer_length = f; symbol_size = t; num_source_blocks = z; num_sub_blocks = n; symbol_alignment = al }

abbrev pub info_numbers : ObjectTransmissionInformation → List ℕ
info_numbers o =
    o.transfer_length ∷ o.symbol_size ∷ o.num_source_blocks ∷ o.num_sub_blocks ∷ o.symbol_alignment ∷ []

abbrev pub packet_numbers : PayloadId × ℕ × ℕ → List ℕ
packet_numbers p = p.0.source_block_number ∷ p.0.encoding_symbol_id ∷ p.1 ∷ p.2 ∷ []

abbrev pub parts_numbers : Parts → List ℕ
parts_numbers p = p.il ∷ p.is ∷ p.jl ∷ p.js ∷ []

-- any nine numbers: whether they are a record of the check is for each call to say
abbrev pub row : ℕ → ℕ → ℕ → ℕ → ℕ → ℕ → ℕ → ℕ → ℕ → Row
row k j s h w l p b p1 = record { kp = k; j = j; s = s; h = h; w = w; l = l; p = p; b = b; p1 = p1 }

abbrev pub row_numbers : Row → List ℕ
row_numbers r = r.kp ∷ r.j ∷ r.s ∷ r.h ∷ r.w ∷ r.l ∷ r.p ∷ r.b ∷ r.p1 ∷ []

abbrev pub tuple_numbers : Tuple → List ℕ
tuple_numbers t = t.d ∷ t.a ∷ t.b ∷ t.d1 ∷ t.a1 ∷ t.b1 ∷ []

abbrev pub slab : ℕ → ℕ → SymbolSlab
slab count t = record { count = count; size = t }

abbrev pub bounds : ℕ × ℕ → List ℕ
bounds r = r.0 ∷ r.1 ∷ []

abbrev pub tuple : ℕ → ℕ → ℕ → ℕ → ℕ → ℕ → Tuple
tuple d a b d1 a1 b1 = record { d = d; a = a; b = b; d1 = d1; a1 = a1; b1 = b1 }
