-- Proof that the variables that a process uses are in scope in its frame.
pub mod Scoped
pub mod Found
pub mod Suited
pub mod Reaching
pub mod Leading
pub mod Keeping
pub mod Covering
pub mod References
pub mod Suiting
pub mod Using
