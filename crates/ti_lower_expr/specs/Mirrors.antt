-- Mirrors the code: how the functions that generate code extend it. No public claim depends on it: `Coding` says what the code of an
-- expression is, and the contract of `lower_expr` refers to that.
pub mod Walking
pub mod Sites
