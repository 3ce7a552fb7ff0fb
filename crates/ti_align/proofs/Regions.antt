-- Proofs that regions in variables were made, and that no action of a run names an object or grid in a deleted region.
pub mod Living
pub mod Leaving
pub mod Lasting
pub mod Results
pub mod Regional
pub mod Handing
pub mod Deleting
pub mod Deleted
pub mod Presence
pub mod Regioned
pub mod Ended
pub mod Dangling
