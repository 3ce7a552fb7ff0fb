-- For proofs only: a functional model of the code. The public contracts of `parse_expr` and `one_tree` depend only on `Answers`.
pub mod Input
pub mod Seen
pub mod Types
pub mod Exprs
pub mod Reach
pub mod Full
pub mod Alone
pub mod ByFront
pub mod Nests
