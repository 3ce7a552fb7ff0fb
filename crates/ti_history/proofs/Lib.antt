mod Crossing
pub mod Lemmas
mod OneEntry
mod Packed
