pub mod Behind
pub mod Cuts
pub mod Lookups
pub mod Matched
pub mod NumberWords
pub mod RawArgs
pub mod Turns
pub mod Views
