-- What the contracts of `field` cite. A crate above names these as `Rattle.field.specs.Octet`.
pub mod Choice
pub mod Octet
pub mod Sum
pub mod Ones
pub mod Answer
pub mod Runs
pub mod Examples
