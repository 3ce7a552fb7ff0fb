-- Definitions that mirror the code. Only contracts of private functions and the invariant use them, so a reader needn't check them.
pub mod Heap
pub mod RunState
pub mod Parts
pub mod Refs
pub mod Regions
pub mod Rounds
pub mod State
pub mod Store
