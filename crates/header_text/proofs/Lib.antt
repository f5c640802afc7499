-- The laws of the text.
pub mod Lines
