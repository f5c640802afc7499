-- What the contracts of `stores` cite. A crate above names these as `Rattle.stores.specs.Bits`.
pub mod Bits
pub mod Rows
pub mod Counting
pub mod Matrix
