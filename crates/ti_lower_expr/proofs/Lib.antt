mod Doing
mod Finding
mod Lazily
mod Stepping
mod Knowing
mod Operands
mod Expressions
mod Naming
mod Growing
mod Walked
mod Beginning
mod Jumping
mod Constants
pub mod Lemmas
