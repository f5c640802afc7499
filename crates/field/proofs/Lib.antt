-- The laws. A crate above names these as `Rattle.field.proofs.Laws`.
pub mod Computed
pub mod Xor
pub mod Laws
pub mod Powers
pub mod Sums
pub mod Writing
pub mod Zeros
pub mod Parts
pub mod Answers
pub mod Refusals
