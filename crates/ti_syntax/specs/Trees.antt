-- Models of the syntax trees, used in contracts: without pointers or capacities.
pub mod Types
pub mod Expressions
pub mod Statements
pub mod Classes
pub mod Views
pub mod Text
