-- Invariants that the proofs carry from step to step. The theorems on runs don't mention them, so a reader needn't know them.
pub mod Fitting
pub mod Sound
pub mod ContItem
pub mod Processes
