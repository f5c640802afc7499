-- The laws of the intake. A crate above names these as `Rattle.intake.proofs.Systems`.
pub mod Systems
pub mod Fixed
pub mod Steps
pub mod Stretches
pub mod Looking
pub mod Refusing
pub mod Packets
pub mod Answering
pub mod Calls
