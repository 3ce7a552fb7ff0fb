pub mod Uses
pub mod Job
pub mod Mirrors
