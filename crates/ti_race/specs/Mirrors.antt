-- Definitions that mirror the code. Only contracts of private functions and invariants cite them; callers rely on none of them.
pub mod GridLayout
pub mod AccessTable
pub mod HistoryIndex
