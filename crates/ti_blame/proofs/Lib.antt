mod Order
mod Stepping
mod Opened
mod Popped
mod Solving
mod Linking
mod Walking
mod Chaining
pub mod Lemmas
