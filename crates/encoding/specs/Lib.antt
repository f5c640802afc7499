-- What the contracts of `encoding` cite. A crate above names these as `Rattle.encoding.specs.Encoded`.
pub mod Encoded
