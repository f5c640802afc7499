-- The theorems of demand 3 about calls, of document 02, E1, about nights, of E9 about the shortfall of both, and of E14 about any number of packets. A crate
-- above names these as `Rattle.promises.proofs.Growth`.
pub mod Among
pub mod Equations
pub mod Fitting
pub mod Exactly
pub mod Growth
pub mod Order
pub mod Lifted
pub mod Never
pub mod Twice
pub mod Fewer
pub mod SentRows
pub mod Floor
pub mod Reencoding
pub mod Listening
pub mod Unbegun
pub mod Nights
pub mod Intake
pub mod Stretches
pub mod Waiting
pub mod Accepting
pub mod Room
