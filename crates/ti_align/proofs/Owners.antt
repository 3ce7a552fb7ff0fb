-- Proofs that `cells_of` lists all cells of a run, and that what local references name is in their process's own memory.
pub mod Counted
pub mod Owned
