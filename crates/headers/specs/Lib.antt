-- What the contracts of `headers` cite. A crate above names these as `Rattle.headers.specs.Row`.
pub mod Told
pub mod Quotient
pub mod Bytes
pub mod Headers
pub mod Partition
pub mod Rand
pub mod Degree
pub mod Prime
pub mod Row
pub mod Shift
pub mod Tuples
pub mod Examples
