-- Definitions that mirror the code, for contracts of private functions: no public claim depends on them.
pub mod GoingOn
pub mod Standing
pub mod TreeProc
