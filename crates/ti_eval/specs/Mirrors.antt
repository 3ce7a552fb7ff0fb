-- Definitions that mirror the code, for contracts of private functions: no public claim depends on them.
pub mod ProcDomain
