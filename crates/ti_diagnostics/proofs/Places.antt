-- The position of every error of a tree is that of one of its tokens, or the first of the text.
pub mod Elements
pub mod Trees
pub mod Spelled
pub mod Programs
pub mod Numbered
pub mod Names
pub mod Refused
pub mod Calls
pub mod Expressions
pub mod Statements
pub mod Singles
pub mod Errors
