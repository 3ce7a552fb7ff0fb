-- Static semantics: the types of expressions, and what the source determines of expressions and statements: their static
-- types, which are single, which have global effects.
pub mod Alike
pub mod Kinds
pub mod Fits
pub mod Operators
pub mod BuiltIn
pub mod Declared
pub mod Expressions
pub mod TextTypes
pub mod Called
pub mod Singleness
pub mod Effects
pub mod TyRef
