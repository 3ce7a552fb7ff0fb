-- Definitions that mirror code, as its private contracts speak of it: nobody has to believe them.
pub mod LineReader
pub mod Replaying
