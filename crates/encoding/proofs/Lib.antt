-- The laws. A crate above names these as `Rattle.encoding.proofs.Sums`.
pub mod Sums
pub mod Allowed
pub mod Settled
