pub mod HeaderFields
pub mod Messages
pub mod Reading
