-- The laws. A crate above names these as `Rattle.reply.proofs.Replies`.
pub mod Lines
pub mod Rows
pub mod Replies
pub mod Names
