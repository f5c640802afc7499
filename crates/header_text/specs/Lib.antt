-- What the contracts of `header_text` cite.
pub mod Counts
pub mod Text
