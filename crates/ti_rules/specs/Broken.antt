-- The rules of types and qualifiers: the errors of each node of a program.
pub mod Refused
pub mod Words
pub mod Misplaced
pub mod Calls
pub mod Expressions
pub mod RightSides
pub mod Targets
pub mod Statements
