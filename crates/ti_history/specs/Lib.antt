pub mod Mirrors
pub mod Recorded
