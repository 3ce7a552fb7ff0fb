-- Mirrors the code: how the functions that generate code extend it. No public claim depends on it: `Calling`, `Receivers`, `StmtCode`
-- and `Programs` say what the code of a program is, and the contract of `lower` refers to them.
pub mod Positions
pub mod Values
pub mod Statements
pub mod Bodies
pub mod Methods
