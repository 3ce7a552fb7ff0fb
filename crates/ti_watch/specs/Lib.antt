pub mod Acts
pub mod Lines
pub mod Mirrors
pub mod Reports
pub mod Texts
