-- The laws of the elimination. A crate above names these as `Rattle.elimination.proofs.Once`.
pub mod Rows
pub mod Steps
pub mod Buffers
pub mod Joining
pub mod Settling
pub mod Units
pub mod Solving
pub mod Once
