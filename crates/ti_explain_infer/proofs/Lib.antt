pub mod FixedPartLaws
pub mod Inferring
pub mod Reading
