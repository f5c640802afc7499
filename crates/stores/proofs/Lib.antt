-- The laws of `stores`. A crate above names these as `Rattle.stores.proofs.Bits`.
pub mod Bits
pub mod Rows
pub mod Columns
pub mod Counting
pub mod Shapes
pub mod Entries
pub mod Once
pub mod Popcount
