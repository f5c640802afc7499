-- The laws of `slabs`. A crate above names these as `Rattle.slabs.proofs.Slabs`.
pub mod Symbols
pub mod Chunks
pub mod Slabs
pub mod Once
