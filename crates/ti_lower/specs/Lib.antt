pub mod Calling
pub mod Receivers
pub mod StmtCode
pub mod Programs
pub mod Mirrors
