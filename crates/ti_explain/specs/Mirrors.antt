-- For proofs only: a functional model of the code. Only contracts of private functions depend on it.
pub mod Arguments
pub mod Found
pub mod Names
pub mod Phases
pub mod Trials
