-- What the contracts of `intake` cite. A crate above names these as `Rattle.intake.specs.Night`.
pub mod Taking
pub mod State
pub mod Night
