-- The words of the three answers. A crate above names these as `Rattle.linear.specs.Bytes`.
pub mod Field
pub mod Index
pub mod Total
pub mod Span
pub mod Independent
pub mod System
pub mod RowOps
pub mod Reduced
pub mod Octets
pub mod Bytes
pub mod Rows
pub mod Elimination
pub mod Back
