-- What the contracts of `builders` cite. A crate above names these as `Rattle.builders.specs.Adding`.
pub mod Adding
pub mod Built
