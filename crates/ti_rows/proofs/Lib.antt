pub mod Following
pub mod NextOfCode
pub mod Reached
pub mod Simulated
pub mod SliceSimulated
pub mod Taking
