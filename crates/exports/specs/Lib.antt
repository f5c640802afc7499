-- What the contracts of `exports` cite.
pub mod Call
pub mod Numbers
pub mod Solving
pub mod Stores
pub mod Intakes
