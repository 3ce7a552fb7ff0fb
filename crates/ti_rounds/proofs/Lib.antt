mod InStep
mod KeptCourses
pub mod Lemmas
