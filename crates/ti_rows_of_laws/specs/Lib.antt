pub mod Markings
pub mod Programs
pub mod Texts
pub mod Traces
