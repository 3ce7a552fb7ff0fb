-- Definitions that mirror the code. Only contracts of private functions and the invariant use them, so a reader needn't check them.
pub mod Held
pub mod Packing
pub mod Reading
