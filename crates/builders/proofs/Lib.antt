-- The laws. A crate above names these as `Rattle.builders.proofs.Adding`.
pub mod Adding
pub mod Walking
pub mod Systems
pub mod Limits
pub mod Settled
