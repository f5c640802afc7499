-- The laws of the solver and the display. A crate above names these as `Rattle.solver.proofs.Settled`.
pub mod Displays
pub mod Order
pub mod Groups
pub mod Filling
pub mod Holding
pub mod Settled
pub mod Admitted
