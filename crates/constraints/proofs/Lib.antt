-- The laws. A crate above names these as `Rattle.constraints.proofs.Distinct`.
pub mod Modular
pub mod Steps
pub mod Lists
pub mod Distinct
pub mod Grid
pub mod Product
pub mod Closed
pub mod Marks
pub mod Accepted
pub mod Rows
pub mod Longest
pub mod Settled
mod Examples
