-- All runs of a checked program are aligned, and none of their actions is impossible: single values are equal in all processes.
pub mod Single
pub mod Slice
pub mod Fine
pub mod Jumping
pub mod Fitting
pub mod Liking
pub mod Moving
pub mod Stepping
pub mod Passing
pub mod Aligning
pub mod Rounds
pub mod Possible
pub mod Checked
pub mod Stopping
