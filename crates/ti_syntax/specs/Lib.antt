pub mod Spelling
pub mod Tokenizing
pub mod Tokens
pub mod Trees
