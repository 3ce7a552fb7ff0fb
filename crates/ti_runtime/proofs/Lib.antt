mod Endings
mod Finishing
mod Steps
mod Turns
mod Waiting
pub mod Crossing
pub mod Assigning
pub mod Fit
pub mod Tasks
pub mod Joining
