-- For proofs only: a functional model of the code. Only contracts of private functions depend on it.
pub mod Refusals
pub mod Contexts
pub mod StmtReport
pub mod RightSides
pub mod Targets
pub mod Modifiers
