-- Definitions that mirror code, as its private contracts speak of it: nobody has to believe them.
pub mod Coding
pub mod Compiling
pub mod EndsWithLine
pub mod Inferring
pub mod Leaving
pub mod Line
pub mod Reading
pub mod Reporting
pub mod RunEnds
pub mod Verifying
pub mod JobView
