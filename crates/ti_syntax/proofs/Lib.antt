mod Bridges
pub mod Lemmas
