mod Calling
mod Coming
mod CopyLaws
mod Entering
mod Goings
mod Leaving
mod MethodLaws
pub mod Lemmas
