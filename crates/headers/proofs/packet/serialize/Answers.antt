-- `headers::packet::serialize` meets its contract.
-- Assumes nothing.
use Rattle.std.proofs.Common.{◌+◌, length, refl, arith, le-ltb, lt-ltb}
use Rattle.headers.specs.Headers.{id_bytes}
use Rattle.headers.proofs.Bytes.{laid-append}
use Rattle.headers.proofs.packet.serialize.Goals as goal

pub returns-then-id-ge16777216 : goal.returns-then-id-ge16777216
returns-then-id-ge16777216 c = record { answer = rw (lt-ltb 16777215 _ c.if-id-ge16777216.true); memory = refl }

pub returns-then-store-lt4 : goal.returns-then-store-lt4
returns-then-store-lt4 c =
    let start = c.args in
    record { answer = rw (le-ltb 16777215 start.id.encoding_symbol_id (omega arith), lt-ltb (length start.store.now) (4 + length start.bytes.now) (omega arith)); memory = refl }

pub returns-then-store-bytes : goal.returns-then-store-bytes
returns-then-store-bytes c =
    let start = c.args in
    record { answer = rw (le-ltb 16777215 start.id.encoding_symbol_id (omega arith), lt-ltb (length start.store.now) (4 + length start.bytes.now) (omega arith)); memory = refl }

pub returns : goal.returns
returns c =
    let start = c.args in
    record {
      answer = rw (le-ltb 16777215 start.id.encoding_symbol_id (omega arith), le-ltb (length start.store.now) (4 + length start.bytes.now) (omega arith));
      memory = laid-append (id_bytes start.id) start.bytes.now c.put.ensures refl c.copy.ensures;
    }
