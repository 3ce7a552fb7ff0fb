pub mod Answer
pub mod Branched
pub mod Found
pub mod Mirrors
pub mod MethodDecl
pub mod Seen
