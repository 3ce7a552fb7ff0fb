pub mod ShownTokens
