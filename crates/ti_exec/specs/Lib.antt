pub mod Marks
pub mod Mirrors
pub mod Pending
pub mod Standing
pub mod States
