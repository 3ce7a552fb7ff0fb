mod Arguments
mod FirstLoop
mod Parts
mod Contexts
mod Together
pub mod Lemmas
