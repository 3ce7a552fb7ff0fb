pub mod Mirrors
pub mod Views
