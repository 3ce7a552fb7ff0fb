-- The programs of the worked examples.
pub mod Numbers
pub mod Statements
pub mod Calls
pub mod Objects
pub mod Domains
pub mod Grids
pub mod Collectives
pub mod Regions
pub mod Programs
