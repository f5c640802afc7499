-- The laws. A crate above names these as `Rattle.headers.proofs.Accepted`.
pub mod Tests
pub mod Quotient
pub mod Bytes
pub mod Headers
pub mod RoundTrip
pub mod Parting
pub mod Information
pub mod Primes
pub mod Rising
pub mod Rules
pub mod Accepted
pub mod Shifts
pub mod Tuples
pub mod Answers
pub mod Settled
