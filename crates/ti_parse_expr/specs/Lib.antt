pub mod Answers
pub mod Mirrors
