-- Models of the data structures that the code uses. They aren't part of what has to be believed: a program's copy is equal to it
-- (`Program::copy`), and the static types are defined by `Typing`.
pub mod Copies
pub mod Indices
pub mod ListedDims
