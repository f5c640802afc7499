-- What the contracts of `solver` cite. A crate above names these as `Rattle.solver.specs.System`.
pub mod Display
pub mod Order
pub mod System
