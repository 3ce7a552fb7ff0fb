pub mod Answer
pub mod Results
pub mod Mirrors
