-- Definitions that mirror the code. Only contracts of private functions cite them; what callers rely on doesn't depend on them.
pub mod Propagation
pub mod Starts
pub mod Search
