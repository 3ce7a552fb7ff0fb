-- For proofs only: a functional model of the code. The public contracts of `parse` and `one_text` depend only on `Answer`.
pub mod ParserParams
pub mod Parts
pub mod Statements
pub mod Classes
pub mod Seen
pub mod Nests
pub mod Pieces
