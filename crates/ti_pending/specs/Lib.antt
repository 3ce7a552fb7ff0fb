pub mod Views
pub mod UpToDate
pub mod Acting
