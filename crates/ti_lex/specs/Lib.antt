pub mod Answer
pub mod Mirrors
pub mod TokenSpans
