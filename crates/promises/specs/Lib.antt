-- The words of the theorems about calls and nights. A crate above names these as `Rattle.promises.specs.Calls`.
pub mod Calls
pub mod Nights
