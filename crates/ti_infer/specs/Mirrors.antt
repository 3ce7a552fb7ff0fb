-- Definitions that mirror the code. Only contracts of private functions and theorems of this crate cite them; what callers rely on
-- doesn't depend on them.
pub mod SingleUnder
pub mod Dependencies
pub mod Implications
pub mod Fits
pub mod Places
pub mod Sites
pub mod Listed
pub mod StmtSites
pub mod Locals
pub mod Solution
