mod Following
mod Acted
mod Ahead
mod Together
pub mod Lemmas
