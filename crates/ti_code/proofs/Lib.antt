mod Short
pub mod Lemmas
