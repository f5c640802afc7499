-- What the contracts of `constraints` cite. A crate above names these as `Rattle.constraints.specs.Walk`.
pub mod Walk
pub mod Encoding
pub mod Ldpc
pub mod Hdpc
pub mod Grid
pub mod Answers
pub mod Examples
