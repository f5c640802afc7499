-- What the contracts of `reply` cite. A crate above names these as `Rattle.reply.specs.Replies`.
pub mod Ascii
pub mod Rows
pub mod Words
pub mod Replies
pub mod Names
pub mod Targets
