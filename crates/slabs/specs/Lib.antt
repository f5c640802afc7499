-- What the contracts of `slabs` cite. A crate above names these as `Rattle.slabs.specs.Slab`.
pub mod Slab
