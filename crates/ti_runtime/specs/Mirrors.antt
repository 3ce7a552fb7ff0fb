-- Definitions that mirror code, as its private contracts speak of it: nobody has to believe them.
pub mod Tasks
pub mod Joined
pub mod Processes
pub mod Waiting
