pub mod Domains
pub mod Pieces
pub mod Slabs
pub mod Walks
