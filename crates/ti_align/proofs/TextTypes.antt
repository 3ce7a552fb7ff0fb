-- Proofs that a program accepted by the type rules fits the types that the proofs about runs rely on.
pub mod Meant
pub mod Forming
pub mod Written
pub mod Stating
pub mod Spelled
pub mod Naming
pub mod Numbered
pub mod Programs
