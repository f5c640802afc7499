-- The laws. A crate above names these as `Rattle.delivery.proofs.Outcomes`.
pub mod Lists
pub mod Screening
pub mod Gathering
pub mod Settling
pub mod Continued
pub mod Outcomes
