-- What the contracts of `delivery` cite. A crate above names these as `Rattle.delivery.specs.Received`.
pub mod Layout
pub mod Screen
pub mod Received
pub mod Hearing
