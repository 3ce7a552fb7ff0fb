-- For proofs only: a functional model of the code. Only contracts of private functions depend on it.
pub mod Arguments
pub mod BuiltIn
pub mod Nodes
pub mod Walk
pub mod Words
