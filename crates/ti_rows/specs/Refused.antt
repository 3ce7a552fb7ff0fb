-- Rejected programs.
pub mod Types
pub mod Singles
