pub mod Answer
pub mod Mirrors
