-- What the contracts of `elimination` cite. A crate above names these as `Rattle.elimination.specs.Verdict`.
pub mod Verdict
pub mod Steps
pub mod Taking
pub mod Settling
pub mod Reducing
pub mod Solving
