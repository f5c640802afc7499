-- That the C interface's contracts settle answer and memory.
pub mod Calls
pub mod Solving
pub mod Once
pub mod Asking
